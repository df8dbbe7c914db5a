-- The list of a volume's files with their dates (this project's profile; the dates are those of OS/8).
use Rattle.std.specs.Prelude.{◌≡◌, ℕ, Bool, true, if◌then◌else◌, decimal, Option, Some, None, Result, Ok, Err, List, [], ◌∷◌, ◌++◌, take}
use Rattle.std.specs.Global.{Vec}
use Rattle.os8_dates.specs.Dates.{date_in}
use Rattle.os8_dates.specs.Spelling.{spelled_date}
use Rattle.os8_dates.specs.declared.dates.Date.{Date}
use Rattle.volume_image.specs.Image.{IsImageOf}
use Rattle.os8_dir.specs.Entries.{DirectoryState}
use Rattle.os8_dir.specs.Found.{FilePlace, files_at, free_blocks}
use Rattle.os8_dir.specs.Reading.{directory_of}
use Rattle.refusals.specs.Listed.{free_line}
use Rattle.name_spelling.specs.Spelling.{text_of}
use Rattle.name_spelling.specs.Patterns.{is_chosen_by}
use Rattle.archive_files.specs.declared.faults.ArchiveFault.{ArchiveFault}
use Rattle.archive_files.specs.LongListing.{information_text}
use Rattle.archive_files.specs.Opening.{IsUnopened}
use Rattle.volume_index.specs.Years.{last_in}

-- ## The lines

-- the day that a word means, after a blank
abbrev pub date_or_none : Option Date → List ℕ
date_or_none None = []
date_or_none (Some date) = 0o40 ∷ spelled_date date

abbrev pub date_of_word : ℕ → ℕ → List ℕ
date_of_word last word = date_or_none (date_in last word)

-- that of the first of some information words
abbrev pub date_text : ℕ → List ℕ → List ℕ
date_text last [] = []
date_text last (word ∷ words) = date_of_word last word

-- the line of a file: its name, how many blocks it has, its first block, so many information words, and its date
abbrev pub dated_line : ℕ → ℕ → FilePlace → List ℕ
dated_line last info f =
    text_of f.name ++ 0o40 ∷ decimal f.size ++ 0o40 ∷ decimal f.place ++ information_text (take info f.info) ++ date_text last (take info f.info) ++ 0o12 ∷ []

-- a file of a name is listed: one of some words chooses it, or there are none
abbrev pub is_listed : List (List ℕ) → ℕ → Bool
is_listed [] name = true
is_listed (word ∷ words) name = is_chosen_by (word ∷ words) name

-- the lines of those files that are listed
abbrev pub lines_of_files : ℕ → ℕ → List (List ℕ) → List FilePlace → List ℕ
lines_of_files last info words [] = []
lines_of_files last info words (f ∷ files) = (if is_listed words f.name then dated_line last info f else []) ++ lines_of_files last info words files

-- the lines of the files of a directory in order of their blocks, and the line of the free blocks
abbrev pub dated_lines : ℕ → List (List ℕ) → DirectoryState → List ℕ
dated_lines last words d = lines_of_files last d.info words (files_at d.first d.entries) ++ free_line (free_blocks d.entries)

pub record IsDatedList (year : Option ℕ) (words : List (List ℕ)) (image text : List ℕ) : Type 0 where
  pub blocks : List (List ℕ)
  pub is_image : IsImageOf image blocks
  pub directory : DirectoryState
  pub read : directory_of blocks ≡ Ok directory
  pub lines : text ≡ dated_lines (last_in year blocks) words directory

-- the list of those files of an image that words choose; an image is refused as a plain list is
abbrev pub ListsChosen : Option ℕ → List (List ℕ) → List ℕ → Result (Vec ℕ) ArchiveFault → Type 0
ListsChosen year words image (Ok text) = IsDatedList year words image text.items
ListsChosen year words image (Err fault) = IsUnopened image fault

-- the list of all of them
abbrev pub ListsDates : Option ℕ → List ℕ → Result (Vec ℕ) ArchiveFault → Type 0
ListsDates year image = ListsChosen year [] image
