-- What steps of the code that looks for a file do. No contract of a public function cites these.
use Rattle.std.specs.Prelude.{◌≡◌, ℕ, ◌+◌, ◌==◌, if◌then◌else◌, Option, Some, None, Result, Ok, Err, List, [], ◌∷◌}
use Rattle.os8_dir.specs.declared.entries.DirEntry.{DirEntry}
use Rattle.os8_dir.specs.Entries.{name_in, size_of}
use Rattle.name_spelling.specs.Reading.{typed_name}
use Rattle.os8_files.specs.Mounted.{MountState}
use Rattle.os8_dir.specs.declared.file_faults.FileFault.{FileFault}
use Rattle.os8_dir.specs.declared.file_faults.FileFault.TheVariants.{BadName, NotFound}
use Rattle.archive_files.specs.declared.faults.ArchiveFault.{ArchiveFault}
use Rattle.archive_files.specs.Asking.{Target, OfName, AtBlock, asked_name}
use Rattle.archive_files.specs.Getting.{RefusesRead}
use Rattle.archive_files.specs.Putting.{IsMounted}

-- the name of an entry that begins at a block, where it is a file that begins at this one
abbrev pub name_of_entry : ℕ → ℕ → DirEntry → Option ℕ
name_of_entry place at entry = if at == place then name_in entry else None

-- the first of two names
abbrev pub first_name : Option ℕ → Option ℕ → Option ℕ
first_name (Some name) other = Some name
first_name None other = other

-- the name of that file among entries which begins at a block, where the first of them begins at another
abbrev pub name_of_entries : ℕ → ℕ → List DirEntry → Option ℕ
name_of_entries place at [] = None
name_of_entries place at (entry ∷ entries) = first_name (name_of_entry place at entry) (name_of_entries place (at + size_of entry) entries)

-- no file is named: what was typed is no name, or none begins at the block
abbrev pub IsUnnamed : List (List ℕ) → Target → FileFault → Type 0
IsUnnamed blocks (OfName text) BadName = typed_name text ≡ None
IsUnnamed blocks (OfName text) fault = ⊥
IsUnnamed blocks (AtBlock place) NotFound = asked_name blocks (AtBlock place) ≡ None
IsUnnamed blocks (AtBlock place) fault = ⊥

-- the name of the file that is wanted of a volume, or why there is none
abbrev pub FindsName : List (List ℕ) → Target → Result ℕ FileFault → Type 0
FindsName blocks wanted (Ok name) = asked_name blocks wanted ≡ Some name
FindsName blocks wanted (Err fault) = IsUnnamed blocks wanted fault

-- an image is mounted, and a file of it named, or why not
abbrev pub FindsFile : List ℕ → Target → Result (MountState × ℕ) ArchiveFault → Type 0
FindsFile image wanted (Ok found) = IsMounted image found.0 × (asked_name found.0.blocks wanted ≡ Some found.1)
FindsFile image wanted (Err fault) = RefusesRead image wanted fault
