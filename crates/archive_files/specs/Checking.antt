-- What a check of an image lists: its blocks, the segments of its directory, and what the directory covers, in order of blocks.
use Rattle.std.specs.Prelude.{◌≡◌, ℕ, zero, suc, ◌+◌, ◌-◌, codes, decimal, nat_lt, if◌then◌else◌, Result, Ok, Err, List, [], ◌∷◌, ◌++◌, length}
use Rattle.std.specs.Global.{Vec}
use Rattle.word12.specs.declared.sizes.TheConstants.{FIRST_FILE_BLOCK}
use Rattle.volume_image.specs.Image.{IsImageOf, minus}
use Rattle.os8_dir.specs.Entries.{DirectoryState, end_of, size_of}
use Rattle.os8_dir.specs.Reading.{block, word, directory_of}
use Rattle.os8_dir.specs.declared.entries.DirEntry.{DirEntry}
use Rattle.os8_dir.specs.declared.entries.DirEntry.TheVariants.{File, Empty}
use Rattle.name_spelling.specs.Spelling.{text_of}
use Rattle.archive_files.specs.declared.faults.ArchiveFault.{ArchiveFault}
use Rattle.archive_files.specs.Opening.{IsUnopened}

-- a block, and how many from it on
abbrev pub extent_text : ℕ → ℕ → List ℕ
extent_text place size = decimal place ++ 0o40 ∷ decimal size ++ 0o12 ∷ []

-- the line of the number of blocks
abbrev pub blocks_line : ℕ → List ℕ
blocks_line count = codes "BLOCKS " ++ decimal count ++ 0o12 ∷ []

-- the line of a segment in a block: how many entries its first word gives (OS/8 Software Support Manual: minus their number)
abbrev pub segment_line : ℕ → ℕ → List ℕ
segment_line number first = codes "SEGMENT " ++ extent_text number (minus first)

-- the lines of the segments from a block on along their links, so many at most; a link of 0 ends them
abbrev pub segment_lines : ℕ → List (List ℕ) → ℕ → List ℕ
segment_lines zero blocks number = []
segment_lines (suc left) blocks zero = []
segment_lines (suc left) blocks (suc number) =
    if nat_lt number 6 then segment_line (suc number) (word (block blocks (suc number)) 0) ++ segment_lines left blocks (word (block blocks (suc number)) 2) else []

-- the line of an entry that begins at a block
abbrev pub entry_line : ℕ → DirEntry → List ℕ
entry_line place (File name info size) = codes "FILE " ++ text_of name ++ 0o40 ∷ extent_text place size
entry_line place (Empty size) = codes "EMPTY " ++ extent_text place size

-- the lines of entries, the first of which begins at a block
abbrev pub entry_lines : ℕ → List DirEntry → List ℕ
entry_lines place [] = []
entry_lines place (entry ∷ entries) = entry_line place entry ++ entry_lines (place + size_of entry) entries

-- the line of blocks that the directory does not cover; of none there is no line
abbrev pub outside_line : ℕ → ℕ → List ℕ
outside_line place zero = []
outside_line place (suc more) = codes "OUTSIDE " ++ extent_text place (suc more)

-- the lines of a volume with this directory
abbrev pub check_lines : List (List ℕ) → DirectoryState → List ℕ
check_lines blocks d = blocks_line (length blocks)
    ++ segment_lines 6 blocks 1
    ++ outside_line FIRST_FILE_BLOCK (d.first - FIRST_FILE_BLOCK)
    ++ entry_lines d.first d.entries
    ++ outside_line (end_of d) (length blocks - end_of d)

pub record IsChecked (image text : List ℕ) : Type 0 where
  pub blocks : List (List ℕ)
  pub is_image : IsImageOf image blocks
  pub directory : DirectoryState
  pub read : directory_of blocks ≡ Ok directory
  pub lines : text ≡ check_lines blocks directory

abbrev pub Checks : List ℕ → Result (Vec ℕ) ArchiveFault → Type 0
Checks image (Ok text) = IsChecked image text.items
Checks image (Err fault) = IsUnopened image fault
