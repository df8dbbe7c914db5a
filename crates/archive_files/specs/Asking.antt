-- Which file of a volume is asked for (this project's profile: by a name that is typed, or by its first block).
use Rattle.std.specs.Prelude.{◌≡◌, ◌⊎◌, ℕ, ◌==◌, if◌then◌else◌, Option, Some, None, Result, Ok, Err, List, [], ◌∷◌}
use Rattle.std.specs.FinMap.{get}
use Rattle.name_spelling.specs.Reading.{typed_name}
use Rattle.os8_dir.specs.Entries.{DirectoryState}
use Rattle.os8_dir.specs.Found.{FilePlace, files_at}
use Rattle.os8_dir.specs.Files.{files_of}
use Rattle.os8_dir.specs.Reading.{directory_of}
use Rattle.os8_dir.specs.declared.faults.DirFault.{DirFault}
use Rattle.archive_files.specs.declared.asking.Asked.{Asked}
use Rattle.archive_files.specs.declared.asking.Asked.TheVariants as asked

-- what is wanted: the file of the name that a text spells, or the one whose first block this is
pub data Target : Type 0 where
  OfName : List ℕ → Target
  AtBlock : ℕ → Target

-- what a call asks for
abbrev pub target_of : Asked → Target
target_of (asked.Name text) = OfName text.bytes.items
target_of (asked.At place) = AtBlock place

-- the name of that of some files which begins at a block
abbrev pub name_beginning : ℕ → List FilePlace → Option ℕ
name_beginning place [] = None
name_beginning place (f ∷ fs) = if f.place == place then Some f.name else name_beginning place fs

-- the name of that of a directory's files which begins at a block
abbrev pub name_at : ℕ → Result DirectoryState DirFault → Option ℕ
name_at place (Ok d) = name_beginning place (files_at d.first d.entries)
name_at place (Err fault) = None

-- the name of the file that is wanted of a volume: the one that a text spells, or that of the file whose first block this is
abbrev pub asked_name : List (List ℕ) → Target → Option ℕ
asked_name blocks (OfName text) = typed_name text
asked_name blocks (AtBlock place) = name_at place (directory_of blocks)

-- what was typed is no name
abbrev pub IsBadName : Target → Type 0
IsBadName (OfName text) = typed_name text ≡ None
IsBadName (AtBlock place) = ⊥

-- A file that was wanted of a volume is not there now: none has the name; or none began at the block, or the one that did is gone.
abbrev pub IsMissing : List (List ℕ) → List (List ℕ) → Target → Type 0
IsMissing was now (OfName text) = (number : ℕ) × (typed_name text ≡ Some number) × (get (files_of now) number ≡ None)
IsMissing was now (AtBlock place) = (asked_name was (AtBlock place) ≡ None)
    ⊎ ((number : ℕ) × (asked_name was (AtBlock place) ≡ Some number) × (get (files_of now) number ≡ None))

-- these are the names of the files that are wanted of a volume
abbrev pub AreAsked : List (List ℕ) → List Target → List ℕ → Type 0
AreAsked blocks [] [] = Unit {0}
AreAsked blocks [] (number ∷ numbers) = ⊥
AreAsked blocks (wanted ∷ others) [] = ⊥
AreAsked blocks (wanted ∷ others) (number ∷ numbers) = (asked_name blocks wanted ≡ Some number) × AreAsked blocks others numbers
