-- The files of a volume: a map from name to information words and words of all blocks.
use Rattle.std.specs.Prelude.{ℕ, List, [], ◌∷◌, ◌++◌, take, drop, Option, Some, None, Result, Ok, Err}
use Rattle.std.specs.Ordering.{nat_cmp}
use Rattle.std.specs.FinMap.{FinMap, from_entries}
use Rattle.os8_dir.specs.declared.faults.DirFault.{DirFault}
use Rattle.os8_dir.specs.Entries.{DirectoryState, capacity}
use Rattle.os8_dir.specs.Reading.{directory_of}
use Rattle.os8_dir.specs.Found.{FilePlace, files_at, above, limit}

-- what a file is: its information words, and the words of all its blocks
abbrev pub FileData : Type 0
FileData = List ℕ × List ℕ

abbrev pub join_blocks : List (List ℕ) → List ℕ
join_blocks [] = []
join_blocks (b ∷ bs) = b ++ join_blocks bs

-- the words of a run of blocks
abbrev pub run : List (List ℕ) → ℕ → ℕ → List ℕ
run blocks place size = join_blocks (take size (drop place blocks))

-- what the blocks hold of a file with so many information words
abbrev pub data_of_file : List (List ℕ) → ℕ → FilePlace → FileData
data_of_file blocks info f = (take info f.info, run blocks f.place f.size)

-- the same of each of some files, with its name
abbrev pub data_of_files : List (List ℕ) → ℕ → List FilePlace → List (ℕ × FileData)
data_of_files blocks info [] = []
data_of_files blocks info (f ∷ fs) = (f.name, data_of_file blocks info f) ∷ data_of_files blocks info fs

-- the same of a file that may be there
abbrev pub data_if_there : List (List ℕ) → ℕ → Option FilePlace → Option FileData
data_if_there blocks info None = None
data_if_there blocks info (Some f) = Some (data_of_file blocks info f)

abbrev pub Files : Type 0
Files = FinMap nat_cmp FileData

-- the files of a directory over the blocks
unfoldable pub files_in : List (List ℕ) → DirectoryState → Files
files_in blocks d = from_entries (data_of_files blocks d.info (files_at d.first d.entries))

-- the files of a volume; one that isn't sound has none
abbrev pub files_or : List (List ℕ) → Result DirectoryState DirFault → Files
files_or blocks (Ok d) = files_in blocks d
files_or blocks (Err fault) = from_entries []

unfoldable pub files_of : List (List ℕ) → Files
files_of blocks = files_or blocks (directory_of blocks)

-- a number of a sound volume's directory; 0 of another
abbrev pub of_directory : (DirectoryState → ℕ) → Result DirectoryState DirFault → ℕ
of_directory number (Ok d) = number d
of_directory number (Err fault) = 0

-- how many blocks the volume's directory covers
unfoldable pub capacity_of : List (List ℕ) → ℕ
capacity_of blocks = of_directory capacity (directory_of blocks)

-- how many entries it may have
unfoldable pub limit_of : List (List ℕ) → ℕ
limit_of blocks = of_directory limit (directory_of blocks)

-- how many files have a covered block of no file below them
unfoldable pub above_of : List (List ℕ) → ℕ
above_of blocks = of_directory (λ d. above d.entries) (directory_of blocks)
