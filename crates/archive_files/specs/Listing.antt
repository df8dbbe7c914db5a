-- What the list of an image's files shows: the lines of `DIRECT`, with each name as it is typed (this project's profile).
use Rattle.std.specs.Prelude.{◌≡◌, ℕ, ◌+◌, decimal, Result, Ok, Err, List, [], ◌∷◌, ◌++◌}
use Rattle.std.specs.Global.{Vec}
use Rattle.os8_dir.specs.Files.{files_of, capacity_of}
use Rattle.os8_files.specs.Service.{lengths_of, blocks_in_use}
use Rattle.refusals.specs.Listed.{free_line}
use Rattle.name_spelling.specs.Spelling.{text_of}
use Rattle.archive_files.specs.declared.faults.ArchiveFault.{ArchiveFault}
use Rattle.archive_files.specs.Opening.{IsOpened, IsUnopened}

-- the line of a file of so many blocks
abbrev pub listed_line : ℕ × ℕ → List ℕ
listed_line (name, size) = text_of name ++ 0o40 ∷ decimal size ++ 0o12 ∷ []

-- the lines of files
abbrev pub listed_lines : List (ℕ × ℕ) → List ℕ
listed_lines [] = []
listed_lines (file ∷ files) = listed_line file ++ listed_lines files

-- the files in name order with their blocks, and the free blocks
pub record IsListing (image text : List ℕ) : Type 0 where
  pub blocks : List (List ℕ)
  pub opened : IsOpened image blocks
  pub free : ℕ
  pub free_are : free + blocks_in_use (files_of blocks) ≡ capacity_of blocks
  pub lines : text ≡ listed_lines (lengths_of (files_of blocks)) ++ free_line free

abbrev pub ListsFiles : List ℕ → Result (Vec ℕ) ArchiveFault → Type 0
ListsFiles image (Ok text) = IsListing image text.items
ListsFiles image (Err fault) = IsUnopened image fault
