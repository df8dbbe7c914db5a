-- The list of those files of a volume whose names are like words (this project's profile).
use Rattle.std.specs.Prelude.{◌≡◌, ℕ, ◌+◌, if◌then◌else◌, Result, Ok, Err, List, [], ◌∷◌, ◌++◌}
use Rattle.std.specs.Global.{Vec}
use Rattle.os8_dir.specs.Files.{files_of, capacity_of}
use Rattle.name_spelling.specs.Patterns.{is_chosen_by}
use Rattle.os8_files.specs.Service.{lengths_of, blocks_in_use}
use Rattle.refusals.specs.Listed.{free_line}
use Rattle.archive_files.specs.declared.faults.ArchiveFault.{ArchiveFault}
use Rattle.archive_files.specs.Listing.{listed_line}
use Rattle.archive_files.specs.Opening.{IsOpened, IsUnopened}

-- the lines of those files that one of some words chooses
abbrev pub like_lines : List (List ℕ) → List (ℕ × ℕ) → List ℕ
like_lines words [] = []
like_lines words (file ∷ files) = (if is_chosen_by words file.0 then listed_line file else []) ++ like_lines words files

-- their lines in name order, as a list of all files has them, and the free blocks of the whole volume
pub record IsListOfLike (words : List (List ℕ)) (image text : List ℕ) : Type 0 where
  pub blocks : List (List ℕ)
  pub opened : IsOpened image blocks
  pub free : ℕ
  pub free_are : free + blocks_in_use (files_of blocks) ≡ capacity_of blocks
  pub lines : text ≡ like_lines words (lengths_of (files_of blocks)) ++ free_line free

abbrev pub ListsLike : List (List ℕ) → List ℕ → Result (Vec ℕ) ArchiveFault → Type 0
ListsLike words image (Ok text) = IsListOfLike words image text.items
ListsLike words image (Err fault) = IsUnopened image fault
