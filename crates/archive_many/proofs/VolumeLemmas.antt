-- The files that are told of a volume.
use Rattle.std.proofs.Common.{◌≡◌, ◌≢◌, ◌∙◌, ◌<◌, ◌≤◌, ◌+◌, ℕ, zero, suc, Bool, true, false, true≢false, cond, Option, Some, Result, Ok, Err, List, [], ◌∷◌, ◌++◌, length, append_assoc, map, refl, sym, ap, subst, arith, inl, inr}
use Rattle.std.specs.Prelude.{◌==◌}
use Rattle.std.proofs.lemmas.Bool.Decides.{eqb_tells}
use Rattle.os8_dir.specs.declared.entries.DirEntry.{DirEntry}
use Rattle.os8_dir.specs.declared.entries.DirEntry.TheVariants as entry
use Rattle.os8_dir.specs.declared.faults.DirFault.{DirFault}
use Rattle.os8_dir.specs.Entries.{AreDistinct, AreWritable, DirectoryState, IsNamed, contains, names_of}
use Rattle.os8_dir.specs.Found.{AreApart, IsDirectory, FilePlace, extent_of, files_at, find}
use Rattle.name_spelling.specs.Laws.{ReadsWhatItSpells}
use Rattle.name_spelling.specs.Reading.{read_name}
use Rattle.os8_dir.specs.Reading.{directory_of}
use Rattle.os8_dir.specs.Files.{FileData}
use Rattle.archive_files.proofs.LawLemmas.{some_eq}
use Rattle.archive_many.specs.Opened.{LiesOn, file_at, files_or}
use Rattle.archive_many.specs.HostNames.{NamesHost}
use Rattle.archive_many.specs.Laws.{IsOfWords}
use Rattle.archive_many.specs.declared.opened.VolumeFile.{VolumeFile}
use Rattle.archive_many.proofs.FileLemmas.{FoundSo, lies}

-- ## Lists

no-end : {X : Type 0} (before following : List X) (x : X) → [] ≡ before ++ x ∷ following → ⊥
no-end [] following x is = cc
no-end (y ∷ before) following x is = cc

same-first : {X : Type 0} (x y : X) (xs ys : List X) → x ∷ xs ≡ y ∷ ys → x ≡ y
same-first x y xs ys is = cc

same-following : {X : Type 0} (x y : X) (xs ys : List X) → x ∷ xs ≡ y ∷ ys → xs ≡ ys
same-following x y xs ys is = cc

-- the names of files
abbrev pub names : List FilePlace → List ℕ
names [] = []
names (f ∷ fs) = f.name ∷ names fs

pub names-at : (place : ℕ) (es : List DirEntry) → names (files_at place es) ≡ names_of es
names-at place [] = refl
names-at place (entry.File name info zero ∷ es) = names-at place es
names-at place (entry.File name info (suc size) ∷ es) = ap (λ l. name ∷ l) (names-at (place + suc size) es)
names-at place (entry.Empty size ∷ es) = names-at (place + size) es

-- ## Found

found-step : (b : Bool) (f g : FilePlace) (o : Option FilePlace) (known : Bool) → cond b (Some f) o ≡ Some g → (o ≡ Some g → known ≡ true) → cond b true known ≡ true
found-step true f g o known is rest = refl
found-step false f g o known is rest = rest is

found-contains : (fs : List FilePlace) (name : ℕ) (g : FilePlace) → find name fs ≡ Some g → contains (names fs) name ≡ true
found-contains [] name g is = absurd (cc)
found-contains (f ∷ fs) name g is = found-step (f.name == name) f g (find name fs) (contains (names fs) name) is (found-contains fs name g)

-- a file of a list is found by its name, where no name stands twice
record Found (fs : List FilePlace) (file : VolumeFile) : Type 0 where
  placed : FilePlace
  found : find file.name fs ≡ Some placed
  is : file_at placed ≡ file

found-first : (f : FilePlace) (fs : List FilePlace) (file : VolumeFile) → file_at f ≡ file → find file.name (f ∷ fs) ≡ Some f
found-first f fs file is = elim (eqb_tells f.name file.name) [
  | inl p ↦ ap (λ b. cond b (Some f) (find file.name fs)) p.0
  | inr p ↦ absurd (p.1 (ap (λ (v : VolumeFile). v.name) is))
]

found-later : (f : FilePlace) (fs : List FilePlace) (file : VolumeFile) (g : FilePlace) → contains (names fs) f.name ≡ false → find file.name fs ≡ Some g → find file.name (f ∷ fs) ≡ Some g
found-later f fs file g none is = elim (eqb_tells f.name file.name) [
  | inl p ↦ absurd (true≢false (sym (found-contains fs file.name g is) ∙ ap (contains (names fs)) (sym p.1) ∙ none))
  | inr p ↦ ap (λ b. cond b (Some f) (find file.name fs)) p.0 ∙ is
]

found-in : (fs : List FilePlace) (before following : List VolumeFile) (file : VolumeFile) → AreDistinct (names fs) → map file_at fs ≡ before ++ file ∷ following → Found fs file
found-in [] before following file distinct is = absurd (no-end before following file is)
found-in (f ∷ fs) [] following file distinct is =
    let first = same-first (file_at f) file (map file_at fs) following is in
    record { placed = f; found = found-first f fs file first; is = first }
found-in (f ∷ fs) (b ∷ before) following file distinct is =
    let rest = found-in fs before following file distinct.1 (same-following (file_at f) b (map file_at fs) (before ++ file ∷ following) is) in
    record { placed = rest.placed; found = found-later f fs file rest.placed distinct.0 rest.found; is = rest.is }

-- ## Where they lie

record Read (read : Result DirectoryState DirFault) (files : List VolumeFile) : Type 0 where
  directory : DirectoryState
  is_read : read ≡ Ok directory
  files_are : map file_at (files_at directory.first directory.entries) ≡ files

read-files : (read : Result DirectoryState DirFault) (before following : List VolumeFile) (file : VolumeFile) → files_or read ≡ before ++ file ∷ following → Read read (before ++ file ∷ following)
read-files (Ok d) before following file is = record { directory = d; is_read = refl; files_are = is }
read-files (Err fault) before following file is = absurd (no-end before following file is)

abbrev SoundSo : Type 0
SoundSo = (blocks : List (List ℕ)) (d : DirectoryState) → directory_of blocks ≡ Ok d → IsDirectory (length blocks) d

pub each-lies : FoundSo → SoundSo → (blocks : List (List ℕ)) (before following : List VolumeFile) (file : VolumeFile) → files_or (directory_of blocks) ≡ before ++ file ∷ following → (held : FileData) × LiesOn blocks file held
each-lies law sound blocks before following file is =
    let read = read-files (directory_of blocks) before following file is in
    let d = read.directory in
    let so = found-in (files_at d.first d.entries) before following file (subst AreDistinct (sym (names-at d.first d.entries)) (sound blocks d read.is_read).single) read.files_are in
    lies law blocks d file so.placed.place so.placed.size read.is_read (sym (ap extent_of so.found)) (ap (λ (v : VolumeFile). v.place) so.is) (ap (λ (v : VolumeFile). v.blocks) so.is)

-- a file of a list begins at its bound or after it
begins-following : (from bound : ℕ) (fs : List FilePlace) (before following : List VolumeFile) (file : VolumeFile) → AreApart from bound fs → map file_at fs ≡ before ++ file ∷ following → from ≤ file.place
begins-following from bound [] before following file apart is = absurd (no-end before following file is)
begins-following from bound (f ∷ fs) [] following file apart is =
    let place : f.place ≡ file.place = ap (λ (v : VolumeFile). v.place) (same-first (file_at f) file (map file_at fs) following is) in
    omega (arith, place, apart.0)
begins-following from bound (f ∷ fs) (b ∷ before) following file apart is =
    let rest = begins-following (f.place + f.size) bound fs before following file apart.2 (same-following (file_at f) b (map file_at fs) (before ++ file ∷ following) is) in
    omega (arith, rest, apart.0)

apart-ends : (from bound : ℕ) (fs : List FilePlace) → AreApart from bound fs → from ≤ bound
apart-ends from bound [] apart = apart
apart-ends from bound (f ∷ fs) apart = let rest = apart-ends (f.place + f.size) bound fs apart.2 in omega (arith, rest, apart.0)

begins-before : (from bound : ℕ) (fs : List FilePlace) (before following : List VolumeFile) (file : VolumeFile) → AreApart from bound fs → map file_at fs ≡ before ++ file ∷ following → file.place ≤ bound
begins-before from bound [] before following file apart is = absurd (no-end before following file is)
begins-before from bound (f ∷ fs) [] following file apart is =
    let place : f.place ≡ file.place = ap (λ (v : VolumeFile). v.place) (same-first (file_at f) file (map file_at fs) following is) in
    let rest = apart-ends (f.place + f.size) bound fs apart.2 in
    omega (arith, place, rest)
begins-before from bound (f ∷ fs) (b ∷ before) following file apart is =
    begins-before (f.place + f.size) bound fs before following file apart.2 (same-following (file_at f) b (map file_at fs) (before ++ file ∷ following) is)

-- of two the second begins after the first
in-order : (from bound : ℕ) (fs : List FilePlace) (before between following : List VolumeFile) (one two : VolumeFile) → AreApart from bound fs → map file_at fs ≡ before ++ one ∷ (between ++ two ∷ following) → one.place < two.place
in-order from bound [] before between following one two apart is = absurd (no-end before (between ++ two ∷ following) one is)
in-order from bound (f ∷ fs) [] between following one two apart is =
    let place : f.place ≡ one.place = ap (λ (v : VolumeFile). v.place) (same-first (file_at f) one (map file_at fs) (between ++ two ∷ following) is) in
    let rest = begins-following (f.place + f.size) bound fs between following two apart.2 (same-following (file_at f) one (map file_at fs) (between ++ two ∷ following) is) in
    omega (arith, place, rest, apart.1)
in-order from bound (f ∷ fs) (b ∷ before) between following one two apart is =
    in-order (f.place + f.size) bound fs before between following one two apart.2 (same-following (file_at f) b (map file_at fs) (before ++ one ∷ (between ++ two ∷ following)) is)

-- ## Names of the host

-- two files of one name are one
one-file : (fs : List FilePlace) (one two : VolumeFile) → Found fs one → Found fs two → one.name ≡ two.name → one.place ≡ two.place
one-file fs one two first second same =
    let placed : first.placed ≡ second.placed = some_eq first.placed second.placed (sym first.found ∙ ap (λ n. find n fs) same ∙ second.found) in
    ap (λ (v : VolumeFile). v.place) (sym first.is ∙ ap file_at placed ∙ second.is)

-- two files are told of a volume, one after the other
record AreTwo (blocks : List (List ℕ)) (one two : VolumeFile) : Type 0 where
  files : List FilePlace
  first : Found files one
  second : Found files two
  order : one.place < two.place
  end : two.place ≤ length blocks

are-two : SoundSo → (blocks : List (List ℕ)) (before between following : List VolumeFile) (one two : VolumeFile) → files_or (directory_of blocks) ≡ before ++ one ∷ (between ++ two ∷ following) → AreTwo blocks one two
are-two sound blocks before between following one two is =
    let read = read-files (directory_of blocks) before (between ++ two ∷ following) one is in
    let d = read.directory in
    let directory = sound blocks d read.is_read in
    let single = subst AreDistinct (sym (names-at d.first d.entries)) directory.single in
    let parted = read.files_are ∙ sym (append_assoc before (one ∷ between) (two ∷ following)) in
    record {
      files = files_at d.first d.entries;
      first = found-in (files_at d.first d.entries) before (between ++ two ∷ following) one single read.files_are;
      second = found-in (files_at d.first d.entries) (before ++ one ∷ between) following two single parted;
      order = in-order d.first (length blocks) (files_at d.first d.entries) before between following one two directory.apart read.files_are;
      end = begins-before d.first (length blocks) (files_at d.first d.entries) (before ++ one ∷ between) following two directory.apart parted;
    }

hosts-differ : ReadsWhatItSpells → (blocks : List (List ℕ)) (one two : VolumeFile) (text other : List ℕ) → AreTwo blocks one two → IsOfWords one.name → IsOfWords two.name → NamesHost one text → NamesHost two other → text ≢ other
hosts-differ law blocks one two text other both small less spelled also same =
    let name = some_eq one.name two.name (sym (law one.name small) ∙ ap read_name (sym spelled ∙ same ∙ also) ∙ law two.name less) in
    let place = one-file both.files one two both.first both.second name in
    omega (arith, place, both.order)

pub names-differ : ReadsWhatItSpells → SoundSo → (blocks : List (List ℕ)) (before between following : List VolumeFile) (one two : VolumeFile) (text other : List ℕ) → IsOfWords one.name → IsOfWords two.name
    → files_or (directory_of blocks) ≡ before ++ one ∷ (between ++ two ∷ following) → NamesHost one text → NamesHost two other → text ≢ other
names-differ law sound blocks before between following one two text other small less is first second =
    hosts-differ law blocks one two text other (are-two sound blocks before between following one two is) small less first second

-- each file of a volume has a name
writable-named : (info place : ℕ) (es : List DirEntry) (before following : List VolumeFile) (file : VolumeFile) → AreWritable info es → map file_at (files_at place es) ≡ before ++ file ∷ following → IsNamed file.name
writable-named info place [] before following file writable is = absurd (no-end before following file is)
writable-named info place (entry.File name words zero ∷ es) before following file writable is = writable-named info place es before following file writable.1 is
writable-named info place (entry.File name words (suc size) ∷ es) [] following file writable is =
    subst IsNamed (ap (λ (v : VolumeFile). v.name) (same-first (record { name = name; place = place; blocks = suc size }) file (map file_at (files_at (place + suc size) es)) following is)) writable.0.0
writable-named info place (entry.File name words (suc size) ∷ es) (b ∷ before) following file writable is =
    writable-named info (place + suc size) es before following file writable.1
    (same-following (record { name = name; place = place; blocks = suc size }) b (map file_at (files_at (place + suc size) es)) (before ++ file ∷ following) is)
writable-named info place (entry.Empty size ∷ es) before following file writable is = writable-named info (place + size) es before following file writable.1 is

pub each-named : SoundSo → (blocks : List (List ℕ)) (before following : List VolumeFile) (file : VolumeFile) → files_or (directory_of blocks) ≡ before ++ file ∷ following → IsNamed file.name
each-named sound blocks before following file is =
    let read = read-files (directory_of blocks) before following file is in
    let d = read.directory in
    writable-named d.info d.first d.entries before following file (sound blocks d read.is_read).writable read.files_are
