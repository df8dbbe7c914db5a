-- What the file service answers, in terms of the map of the volume's files.
use Rattle.std.specs.Prelude.{ℕ, ◌+◌, ◌/◌, Option, Some, None, List, [], ◌∷◌, map, length}
use Rattle.word12.specs.declared.sizes.TheConstants.{BLOCK}
use Rattle.std.specs.FinMap.{entries}
use Rattle.os8_dir.specs.Names.{with_end_zeros}
use Rattle.os8_dir.specs.Files.{Files, FileData}

-- the blocks of a file
abbrev pub blocks_in : FileData → ℕ
blocks_in held = length held.1 / BLOCK

-- the blocks of a file that may be there
abbrev pub blocks_of : Option FileData → Option ℕ
blocks_of None = None
blocks_of (Some held) = Some (blocks_in held)

-- the information words of a file that may be there, with zeros after them up to ten
abbrev pub information_of : Option FileData → Option (List ℕ)
information_of None = None
information_of (Some held) = Some (with_end_zeros 10 held.0)

-- the names with the blocks of each file, in name order
abbrev pub lengths_of : Files → List (ℕ × ℕ)
lengths_of files = map (λ file. (file.0, blocks_in file.1)) (entries files)

-- the blocks of some files
abbrev pub total_of : List (ℕ × FileData) → ℕ
total_of [] = 0
total_of (file ∷ files) = blocks_in file.1 + total_of files

-- the blocks of all files
abbrev pub blocks_in_use : Files → ℕ
blocks_in_use files = total_of (entries files)

-- how many files
abbrev pub count_of : Files → ℕ
count_of files = length (entries files)
