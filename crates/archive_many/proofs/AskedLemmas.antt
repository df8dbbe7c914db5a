-- The file that is asked for among the files of a volume.
use Rattle.std.proofs.Common.{◌≡◌, ◌∙◌, ◌⊎◌, ◌≤◌, ◌+◌, ℕ, Bool, true, false, if◌then◌else◌, nat_eq, eqb, Option, Some, None, Result, Ok, List, [], ◌∷◌, length, map, refl, sym, ap, subst, arith, inl, inr}
use Rattle.std.proofs.lemmas.Bool.Decides.{nat_tests, eqb_tells}
use Rattle.name_spelling.specs.Reading.{typed_name}
use Rattle.os8_dir.specs.Entries.{DirectoryState}
use Rattle.os8_dir.specs.Found.{AreApart, FilePlace, files_at}
use Rattle.os8_dir.specs.Reading.{Sound, directory_of}
use Rattle.os8_dir.specs.declared.faults.DirFault.{DirFault}
use Rattle.archive_files.specs.Asking.{AtBlock, OfName, Target, asked_name, name_at, name_beginning}
use Rattle.archive_files.proofs.LawLemmas.{some_eq}
use Rattle.archive_many.specs.Choosing.{beginning_at, file_asked, file_if_named, file_named, file_or_none}
use Rattle.archive_many.specs.Opened.{file_at, files_in, files_on, files_or}
use Rattle.archive_many.specs.declared.opened.VolumeFile.{VolumeFile}
use Rattle.archive_many.proofs.FileLemmas.{SoundSo}
use Rattle.archive_many.proofs.GoneLemmas.{read-so}

found-so : (o : Option VolumeFile) (file : VolumeFile) → file_or_none o ≡ Ok file → o ≡ Some file
found-so None file is = absurd (cc)
found-so (Some one) file is = ap Some (ok-eq one file is)
  where
    ok-eq : (a b : VolumeFile) → file_or_none (Some a) ≡ Ok b → a ≡ b
    ok-eq a b is = cc

if-some : (b : Bool) (f g : VolumeFile) (o : Option VolumeFile) → (if b then Some f else o) ≡ Some g → ((b ≡ true) × (f ≡ g)) ⊎ (o ≡ Some g)
if-some true f g o is = inl (refl, some_eq f g is)
if-some false f g o is = inr is

equal : (a b : ℕ) → nat_eq a b ≡ true → a ≡ b
equal a b is = grind (arith, nat_tests)

-- the file of a name has that name
pub named-so : (name : ℕ) (files : List VolumeFile) (file : VolumeFile) → file_named name files ≡ Some file → file.name ≡ name
named-so name [] file is = absurd (cc)
named-so name (f ∷ files) file is = elim (if-some (nat_eq f.name name) f file (file_named name files) is) [
  | inl here ↦ ap (λ (v : VolumeFile). v.name) (sym here.1) ∙ equal f.name name here.0
  | inr later ↦ named-so name files file later
]

-- a name is the first to begin at a block, or it begins after
first-begins : (f : FilePlace) (place name : ℕ) (fs : List FilePlace) → f.place ≡ place → f.name ≡ name → name_beginning place (f ∷ fs) ≡ Some name
first-begins f place name fs at is = elim (eqb_tells f.place place) [
  | inl p ↦ ap (λ b. if b then Some f.name else name_beginning place fs) p.0 ∙ ap Some is
  | inr p ↦ absurd (p.1 at)
]

-- that which begins at a block begins there, and its name is the one that is found there
at-place : (place : ℕ) (fs : List FilePlace) (file : VolumeFile) → beginning_at place (map file_at fs) ≡ Some file → (file.place ≡ place) × (name_beginning place fs ≡ Some file.name)
at-place place [] file is = absurd (cc)
at-place place (f ∷ fs) file is = elim (eqb_tells f.place place) [
  | inl p ↦
      let one : file_at f ≡ file = some_eq (file_at f) file (sym (ap (λ b. if b then Some (file_at f) else beginning_at place (map file_at fs)) p.0) ∙ is) in
      let at : f.place ≡ file.place = ap (λ (v : VolumeFile). v.place) one in
      (sym at ∙ p.1, first-begins f place file.name fs p.1 (ap (λ (v : VolumeFile). v.name) one))
  | inr p ↦
      let rest = at-place place fs file (sym (ap (λ b. if b then Some (file_at f) else beginning_at place (map file_at fs)) p.0) ∙ is) in
      (rest.0, ap (λ b. if b then Some f.name else name_beginning place fs) p.0 ∙ rest.1)
]

-- of files that lie apart that of a name is the one that begins at its block
by-name : (from bound : ℕ) (fs : List FilePlace) (name : ℕ) (file : VolumeFile) → AreApart from bound fs → file_named name (map file_at fs) ≡ Some file
    → (from ≤ file.place) × (name_beginning file.place fs ≡ Some file.name)
by-name from bound [] name file apart is = absurd (cc)
by-name from bound (f ∷ fs) name file apart is = elim (if-some (nat_eq f.name name) (file_at f) file (file_named name (map file_at fs)) is) [
  | inl here ↦
      let at : f.place ≡ file.place = ap (λ (v : VolumeFile). v.place) here.1 in
      (omega (arith, at, apart.0), first-begins f file.place file.name fs at (ap (λ (v : VolumeFile). v.name) here.1))
  | inr later ↦
      let rest = by-name (f.place + f.size) bound fs name file apart.2 later in (
        omega (arith, rest.0, apart.0),
        elim (eqb_tells f.place file.place) [
          | inl p ↦ absurd (omega (arith, p.1, rest.0, apart.1))
          | inr p ↦ ap (λ b. if b then Some f.name else name_beginning file.place fs) p.0 ∙ rest.1
        ],
      )
]

-- the name that a text spells, and its file
if-named : (o : Option ℕ) (files : List VolumeFile) (file : VolumeFile) → file_if_named o files ≡ Ok file → (name : ℕ) × (o ≡ Some name) × (file_named name files ≡ Some file)
if-named None files file is = absurd (cc)
if-named (Some name) files file is = (name, refl, found-so (file_named name files) file is)

-- of a directory that was read
by-directory : (blocks : List (List ℕ)) (d : DirectoryState) (bound : ℕ) (wanted : Target) (file : VolumeFile) → directory_of blocks ≡ Ok d → AreApart d.first bound (files_at d.first d.entries)
    → file_asked wanted (files_in d) ≡ Ok file → (asked_name blocks wanted ≡ Some file.name) × (asked_name blocks (AtBlock file.place) ≡ Some file.name)
by-directory blocks d bound (OfName text) file read apart is =
    let one = if-named (typed_name text) (files_in d) file is in
    (one.1 ∙ ap Some (sym (named-so one.0 (files_in d) file one.2)), ap (name_at file.place) read ∙ (by-name d.first bound (files_at d.first d.entries) one.0 file apart one.2).1)
by-directory blocks d bound (AtBlock place) file read apart is =
    let one = at-place place (files_at d.first d.entries) file (found-so (beginning_at place (files_in d)) file is) in
    let named : asked_name blocks (AtBlock place) ≡ Some file.name = ap (name_at place) read ∙ one.1 in
    (named, subst (λ p. asked_name blocks (AtBlock p) ≡ Some file.name) (sym one.0) named)

-- the file that is asked for of a sound volume has the name of what is asked for, and so has what begins at its block
pub asked-so : SoundSo → (blocks : List (List ℕ)) (wanted : Target) (file : VolumeFile) → Sound blocks → file_asked wanted (files_on blocks) ≡ Ok file
    → (asked_name blocks wanted ≡ Some file.name) × (asked_name blocks (AtBlock file.place) ≡ Some file.name)
asked-so sound blocks wanted file is_sound is =
    let d = read-so (directory_of blocks) is_sound in
    by-directory blocks d.0 (length blocks) wanted file d.1 (sound blocks d.0 d.1).apart (subst (λ (r : Result DirectoryState DirFault). file_asked wanted (files_or r) ≡ Ok file) d.1 is)
