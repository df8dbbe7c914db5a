-- Files that lie one right after the other.
use Rattle.std.specs.Prelude.{◌≢◌, ℕ, ◌+◌, take, Result, Ok, Err, List, [], ◌∷◌}
use Rattle.os8_dir.specs.Entries.{DirectoryState}
use Rattle.os8_dir.specs.Found.{FilePlace, files_at}
use Rattle.os8_dir.specs.Names.{with_end_zeros}
use Rattle.os8_dir.specs.declared.faults.DirFault.{DirFault}
use Rattle.os8_files.specs.Puts.{blocks_filled}
use Rattle.volume_salvage.specs.declared.volumes.KeptFile.{KeptFile}

-- no file has the name
abbrev pub HasNone : ℕ → List KeptFile → Type 0
HasNone name [] = Unit {0}
HasNone name (f ∷ fs) = (f.name ≢ name) × HasNone name fs

-- no two files have one name
abbrev pub Differ : List KeptFile → Type 0
Differ [] = Unit {0}
Differ (f ∷ fs) = HasNone f.name fs × Differ fs

-- the files of a directory, in the order of their blocks
abbrev pub files_by_place : Result DirectoryState DirFault → List FilePlace
files_by_place (Ok d) = files_at d.first d.entries
files_by_place (Err fault) = []

-- a file as it lies from a block on, in a directory with so many information words
abbrev pub file_place : ℕ → ℕ → KeptFile → FilePlace
file_place info place f = record { name = f.name; info = with_end_zeros 10 (take info f.info); place = place; size = blocks_filled f.words.items }

-- files in their order, each right after the one before it, from a block on
abbrev pub in_a_row : ℕ → ℕ → List KeptFile → List FilePlace
in_a_row info place [] = []
in_a_row info place (f ∷ fs) = file_place info place f ∷ in_a_row info (place + blocks_filled f.words.items) fs
