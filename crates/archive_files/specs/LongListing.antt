-- What a long list of an image's files shows: where each lies, and its information words (this project's profile).
use Rattle.std.specs.Prelude.{◌≡◌, ℕ, decimal, Result, Ok, Err, List, [], ◌∷◌, ◌++◌, take}
use Rattle.std.specs.Global.{Vec}
use Rattle.word12.specs.Octal.{octal4}
use Rattle.volume_image.specs.Image.{IsImageOf}
use Rattle.os8_dir.specs.Entries.{DirectoryState}
use Rattle.os8_dir.specs.Found.{FilePlace, files_at, free_blocks}
use Rattle.os8_dir.specs.Reading.{directory_of}
use Rattle.refusals.specs.Listed.{free_line}
use Rattle.name_spelling.specs.Spelling.{text_of}
use Rattle.archive_files.specs.declared.faults.ArchiveFault.{ArchiveFault}
use Rattle.archive_files.specs.Opening.{IsUnopened}

-- information words, each as a blank and its four octal digits
abbrev pub information_text : List ℕ → List ℕ
information_text [] = []
information_text (word ∷ words) = 0o40 ∷ octal4 word ++ information_text words

-- the line of a file: its name, how many blocks it has, its first block, and so many information words
abbrev pub long_line : ℕ → FilePlace → List ℕ
long_line info f = text_of f.name ++ 0o40 ∷ decimal f.size ++ 0o40 ∷ decimal f.place ++ information_text (take info f.info) ++ 0o12 ∷ []

-- the lines of files
abbrev pub lines_of_files : ℕ → List FilePlace → List ℕ
lines_of_files info [] = []
lines_of_files info (f ∷ files) = long_line info f ++ lines_of_files info files

-- the lines of the files of a directory in order of their blocks, and the line of the free blocks
abbrev pub long_lines : DirectoryState → List ℕ
long_lines d = lines_of_files d.info (files_at d.first d.entries) ++ free_line (free_blocks d.entries)

pub record IsLongList (image text : List ℕ) : Type 0 where
  pub blocks : List (List ℕ)
  pub is_image : IsImageOf image blocks
  pub directory : DirectoryState
  pub read : directory_of blocks ≡ Ok directory
  pub lines : text ≡ long_lines directory

abbrev pub ListsLong : List ℕ → Result (Vec ℕ) ArchiveFault → Type 0
ListsLong image (Ok text) = IsLongList image text.items
ListsLong image (Err fault) = IsUnopened image fault
