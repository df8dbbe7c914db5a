-- The file that is asked for.
use Rattle.std.proofs.Common.{◌≡◌, ◌∙◌, ℕ, zero, suc, ◌+◌, ◌==◌, Bool, true, false, if◌then◌else◌, Option, Some, None, Ok, List, [], ◌∷◌, refl, sym, ap, subst, arith, inl, inr, IfSome}
use Rattle.std.specs.FinMap.{get}
use Rattle.volume_image.specs.Image.{IsImageOf, WrittenIsReadBack}
use Rattle.os8_dir.specs.declared.entries.DirEntry.{DirEntry}
use Rattle.os8_dir.specs.declared.entries.DirEntry.TheVariants.{File, Empty}
use Rattle.os8_dir.specs.Entries.{DirectoryState, AreWritable, IsNamed, IsTidy}
use Rattle.os8_dir.specs.Found.{IsDirectory, files_at}
use Rattle.os8_dir.specs.Files.{FileData, files_of}
use Rattle.archive_files.specs.Asking.{Target, OfName, AtBlock, asked_name, name_at, name_beginning, IsBadName, IsMissing}
use Rattle.archive_files.specs.AskSteps.{first_name, name_of_entries}
use Rattle.archive_files.proofs.FirstBlockLemmas.{either}
use Rattle.archive_files.proofs.LawLemmas.{some_eq, one_volume}

-- what is asked for of an image has one name
pub one_name : WrittenIsReadBack → (image : List ℕ) (wanted : Target) (one two : List (List ℕ)) (name other : ℕ) → IsImageOf image one → IsImageOf image two
    → asked_name one wanted ≡ Some name → asked_name two wanted ≡ Some other → other ≡ name
one_name law image wanted one two name other is also named same =
    some_eq other name (sym same ∙ ap (λ (blocks : List (List ℕ)). asked_name blocks wanted) (one_volume law image one two is also) ∙ named)

-- what is named is no bad name
pub bad_named : (blocks : List (List ℕ)) (wanted : Target) (number : ℕ) → IsBadName wanted → asked_name blocks wanted ≡ Some number → ⊥
bad_named blocks (OfName text) number bad named = none_some number (sym bad ∙ named)
  where
    none_some : (n : ℕ) → None ≡ Some n → ⊥
    none_some n is = cc
bad_named blocks (AtBlock place) number bad named = bad

-- what is there is not missing
pub there_missing : (blocks : List (List ℕ)) (wanted : Target) (number : ℕ) (file : FileData) → IsMissing blocks blocks wanted → asked_name blocks wanted ≡ Some number
    → get (files_of blocks) number ≡ Some file → ⊥
there_missing blocks (OfName text) number file missing named there =
    none_some file (sym missing.2 ∙ ap (get (files_of blocks)) (some_eq missing.0 number (sym missing.1 ∙ named)) ∙ there)
  where
    none_some : (f : FileData) → None ≡ Some f → ⊥
    none_some f is = cc
there_missing blocks (AtBlock place) number file (inl none) named there = none_some number (sym none ∙ named)
  where
    none_some : (n : ℕ) → None ≡ Some n → ⊥
    none_some n is = cc
there_missing blocks (AtBlock place) number file (inr missing) named there =
    none_some file (sym missing.2 ∙ ap (get (files_of blocks)) (some_eq missing.0 number (sym missing.1 ∙ named)) ∙ there)
  where
    none_some : (f : FileData) → None ≡ Some f → ⊥
    none_some f is = cc

-- ## Among entries

over : (b : Bool) (name : ℕ) (rest : Option ℕ) → first_name (if b then Some name else None) rest ≡ (if b then Some name else rest)
over true name rest = refl
over false name rest = refl

none-over : (b : Bool) (rest : Option ℕ) → first_name (if b then None else None) rest ≡ rest
none-over true rest = refl
none-over false rest = refl

-- the name of the file among entries that begins at a block
pub names-of-entries : (place at : ℕ) (es : List DirEntry) → IsTidy es → name_of_entries place at es ≡ name_beginning place (files_at at es)
names-of-entries place at [] neat = refl
names-of-entries place at (File name words zero ∷ es) neat = absurd (omega (arith, neat.0))
names-of-entries place at (File name words (suc size) ∷ es) neat =
    over (at == place) name (name_of_entries place (at + suc size) es)
    ∙ ap (λ (o : Option ℕ). if at == place then Some name else o) (names-of-entries place (at + suc size) es neat.2)
names-of-entries place at (Empty size ∷ es) neat = none-over (at == place) (name_of_entries place (at + size) es) ∙ names-of-entries place (at + size) es neat.2

-- it is a name that a file can have
named-of-entries : (info place at n : ℕ) (es : List DirEntry) → AreWritable info es → name_of_entries place at es ≡ Some n → IsNamed n
named-of-entries info place at n [] writable is = cc
named-of-entries info place at n (File name words size ∷ es) writable is =
    elim (either (at == place) name n (name_of_entries place (at + size) es) (sym (over (at == place) name (name_of_entries place (at + size) es)) ∙ is)) [
      | inl same ↦ subst IsNamed same writable.0.0
      | inr rest ↦ named-of-entries info place (at + size) n es writable.1 rest
    ]
named-of-entries info place at n (Empty size ∷ es) writable is =
    named-of-entries info place (at + size) n es writable.1 (sym (none-over (at == place) (name_of_entries place (at + size) es)) ∙ is)

-- what is found among a directory's entries
pub name-found : (volume place first : ℕ) (d : DirectoryState) (entries : List DirEntry) (found : Option ℕ) → IsDirectory volume d → first ≡ d.first → entries ≡ d.entries
    → found ≡ name_of_entries place first entries → found ≡ name_at place (Ok d)
name-found volume place first d entries found is is_first is_entries same =
    same ∙ rw (is_first, is_entries) (names-of-entries place d.first d.entries is.neat)

pub named-found : (volume place first : ℕ) (d : DirectoryState) (entries : List DirEntry) (found : Option ℕ) → IsDirectory volume d → first ≡ d.first → entries ≡ d.entries
    → found ≡ name_of_entries place first entries → IfSome found IsNamed
named-found volume place first d entries None is is_first is_entries same = tt
named-found volume place first d entries (Some n) is is_first is_entries same =
    named-of-entries d.info place first n entries (subst (AreWritable d.info) (sym is_entries) is.writable) (sym same)
