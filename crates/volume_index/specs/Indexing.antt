-- The lines of an index for the files of a volume (this project's profile).
use Rattle.std.specs.Prelude.{◌≡◌, ℕ, ◌*◌, Bool, true, false, ◌&&◌, if◌then◌else◌, Option, Some, None, Result, Ok, Err, List, [], ◌∷◌, ◌++◌, String, drop, slice_index, take}
use Rattle.std.specs.Global.{Vec}
use Rattle.std.specs.declared.alloc.Global.{Global}
use Rattle.char_pack.specs.Packing.{frames}
use Rattle.char_pack.specs.Texts.{text}
use Rattle.file_kind.specs.Kinds.{IsKind}
use Rattle.file_kind.specs.declared.kinds.FileKind.{FileKind}
use Rattle.file_kind.specs.declared.kinds.FileKind.TheVariants.{Zeros, Core, Bin, Rim, Text, Unknown}
use Rattle.volume_image.specs.Image.{IsImageOf}
use Rattle.os8_dir.specs.Entries.{DirectoryState}
use Rattle.os8_dir.specs.Found.{FilePlace, files_at}
use Rattle.os8_dir.specs.Files.{run}
use Rattle.os8_dir.specs.Reading.{directory_of}
use Rattle.name_spelling.specs.Patterns.{is_choice, matches}
use Rattle.volume_index.specs.Lines.{index_line}
use Rattle.volume_index.specs.declared.lines.IndexEntry.{IndexEntry}
use Rattle.archive_files.specs.declared.faults.ArchiveFault.{ArchiveFault}
use Rattle.archive_files.specs.Getting.{line_feeds}
use Rattle.archive_files.specs.Opening.{IsUnopened}
use Rattle.volume_index.specs.Holding.{holds}
use Rattle.volume_index.specs.Years.{last_in}
use Rattle.volume_index.specs.declared.styles.IndexStyle.{IndexStyle}

-- ## A file

-- what an index says of a file of this kind, on a volume of this number; its date is its first information word
abbrev pub entry_of : Option ℕ → FilePlace → FileKind → IndexEntry
entry_of number f kind =
    record { volume = number; first = f.place; length = f.size; name = f.name; date = slice_index f.info 0; kind = kind }

-- the bytes that blocks are in an image
abbrev pub block_bytes : List ℕ → ℕ → ℕ → List ℕ
block_bytes image place size = take (0o1000 * size) (drop (0o1000 * place) image)

abbrev pub is_text : FileKind → Bool
is_text Zeros = false
is_text (Core start) = false
is_text Bin = false
is_text Rim = false
is_text Text = true
is_text Unknown = false

-- a text is wanted in files, and a file of these words is a text that holds it as it reads
abbrev pub holds_wanted : Option (String Global) → FileKind → List ℕ → Bool
holds_wanted None kind words = true
holds_wanted (Some wanted) kind words = is_text kind && holds wanted.bytes.items (line_feeds (text words))

-- the line of a file, of which the kind is that of its frames; none where it doesn't hold the text that is wanted
pub record IsLineOf (style : IndexStyle) (name : List ℕ) (number : Option ℕ) (last : ℕ) (image : List ℕ) (blocks : List (List ℕ)) (f : FilePlace) (line : List ℕ) : Type 0 where
  pub kind : FileKind
  pub is_kind : IsKind (frames (run blocks f.place f.size)) kind
  pub line_is : line ≡ (if holds_wanted style.grep kind (run blocks f.place f.size)
      then index_line name (entry_of number f kind) last (block_bytes image f.place f.size) else [])

-- a word chooses files, and a name is like it
abbrev pub is_chosen : List ℕ → ℕ → Bool
is_chosen word name = is_choice word && matches word name

-- a file that isn't chosen has no line
abbrev pub IsLineIf : Bool → IndexStyle → List ℕ → Option ℕ → ℕ → List ℕ → List (List ℕ) → FilePlace → List ℕ → Type 0
IsLineIf true style name number last image blocks f line = IsLineOf style name number last image blocks f line
IsLineIf false style name number last image blocks f line = line ≡ []

-- ## A volume

-- the lines of files, in their order
abbrev pub AreLinesOf : IndexStyle → List ℕ → Option ℕ → ℕ → List ℕ → List (List ℕ) → List FilePlace → List ℕ → Type 0
AreLinesOf style name number last image blocks [] lines = lines ≡ []
AreLinesOf style name number last image blocks (f ∷ files) lines = (line : List ℕ) × (others : List ℕ)
    × IsLineIf (is_chosen style.find.bytes.items f.name) style name number last image blocks f line
    × AreLinesOf style name number last image blocks files others × (lines ≡ line ++ others)

-- A text has one line for each file that is wanted of the volume in an image, in the order of its directory, and nothing else.
pub record IsIndex (style : IndexStyle) (name : List ℕ) (number : Option ℕ) (image text : List ℕ) : Type 0 where
  pub blocks : List (List ℕ)
  pub is_image : IsImageOf image blocks
  pub directory : DirectoryState
  pub read : directory_of blocks ≡ Ok directory
  pub lines_are : AreLinesOf style name number (last_in style.year blocks) image blocks (files_at directory.first directory.entries) text

-- the index of an image, which is refused as a plain list is
abbrev pub Indexes : IndexStyle → List ℕ → Option ℕ → List ℕ → Result (Vec ℕ) ArchiveFault → Type 0
Indexes style name number image (Ok text) = IsIndex style name number image text.items
Indexes style name number image (Err fault) = IsUnopened image fault
