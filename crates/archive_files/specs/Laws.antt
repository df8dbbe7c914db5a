-- What holds of a file that was put into an image and is got from the new one, and of what a check lists.
use Rattle.std.specs.Prelude.{◌≡◌, ◌≢◌, ℕ, zero, suc, ◌+◌, ◌-◌, ◌*◌, ◌<◌, ◌≤◌, ◌&&◌, not, nat_eq, nat_le, nat_lt, Bool, true, false, if◌then◌else◌, Option, Result, Ok, MatchResult, List, [], ◌∷◌, ◌++◌, All, codes, length, replicate}
use Rattle.std.specs.Global.{Vec}
use Rattle.char_pack.specs.Packing.{block_count, block_frames}
use Rattle.char_pack.specs.Texts.{is_storable}
use Rattle.word12.specs.declared.sizes.TheConstants.{FIRST_FILE_BLOCK}
use Rattle.volume_image.specs.Image.{IsImageOf}
use Rattle.name_spelling.specs.Reading.{typed_name}
use Rattle.os8_dir.specs.Entries.{DirectoryState, AreDistinct, end_of, size_of}
use Rattle.os8_dir.specs.Reading.{◌>>=◌, block, word, head_of, with_segment, directory_of}
use Rattle.os8_dir.specs.declared.faults.DirFault.{DirFault}
use Rattle.os8_dir.specs.declared.entries.DirEntry.{DirEntry}
use Rattle.os8_dir.specs.declared.entries.DirEntry.TheVariants.{File, Empty}
use Rattle.name_spelling.specs.Spelling.{text_of}
use Rattle.refusals.specs.declared.faults.SessionFault.TheVariants.{Memory}
use Rattle.archive_files.specs.declared.forms.GetForm.{GetForm}
use Rattle.archive_files.specs.declared.forms.GetForm.TheVariants as get_as
use Rattle.archive_files.specs.declared.forms.PutForm.{PutForm}
use Rattle.archive_files.specs.declared.forms.PutForm.TheVariants as put_as
use Rattle.archive_files.specs.declared.faults.ArchiveFault.{ArchiveFault}
use Rattle.archive_files.specs.declared.faults.ArchiveFault.TheVariants.{Refused}
use Rattle.archive_files.specs.declared.putting.NewImage.{NewImage}
use Rattle.archive_files.specs.Checking.{Checks, blocks_line, extent_text, segment_line, segment_lines}
use Rattle.archive_files.specs.Asking.{Target, OfName, asked_name}
use Rattle.archive_files.specs.Getting.{Gets, IsFile, IsTapeOf, line_feeds}
use Rattle.archive_files.specs.HostTexts.{is_unbroken, lines_text, text_words}
use Rattle.archive_files.specs.Putting.{PutsFile}

-- bytes, and zeros after them to the end of their last block
abbrev pub whole_blocks : List ℕ → List ℕ
whole_blocks bytes = bytes ++ replicate (block_frames * block_count (length bytes) - length bytes) 0

-- these bytes are given, or memory is wanted
abbrev pub GivesOrLacks : List ℕ → Result (Vec ℕ) ArchiveFault → Type 0
GivesOrLacks bytes answer = MatchResult answer (λ given. given.items ≡ bytes) (λ fault. fault ≡ Refused Memory)

-- bytes come back, with zeros after them
abbrev pub FramesComeBack : Type 0
FramesComeBack = (image name bytes : List ℕ) (info : Option (List ℕ)) (new : NewImage) (answer : Result (Vec ℕ) ArchiveFault) → All (λ byte. byte < 256) bytes
    → PutsFile image name put_as.Frames bytes info (Ok new) → Gets new.bytes.items (OfName name) get_as.Frames answer → GivesOrLacks (whole_blocks bytes) answer

-- the tape that bytes begin with comes back: all of them, where they end with its trailer
abbrev pub TapeComesBack : Type 0
TapeComesBack = (image name bytes tape : List ℕ) (info : Option (List ℕ)) (new : NewImage) (answer : Result (Vec ℕ) ArchiveFault) → All (λ byte. byte < 256) bytes
    → IsTapeOf bytes tape → PutsFile image name put_as.Frames bytes info (Ok new) → Gets new.bytes.items (OfName name) get_as.Tape answer → GivesOrLacks tape answer

-- a CR stands in a text
abbrev pub has_return : List ℕ → Bool
has_return [] = false
has_return (byte ∷ others) = if nat_eq byte 0o15 then true else has_return others

-- a text comes back with each of its line ends, LF or CR LF, as LF; so one without CR comes back as it is
pub record LinesComeBack : Type 0 where
  pub ends : (image name bytes : List ℕ) (info : Option (List ℕ)) (new : NewImage) (answer : Result (Vec ℕ) ArchiveFault) → PutsFile image name put_as.Text bytes info (Ok new)
      → Gets new.bytes.items (OfName name) get_as.Text answer → GivesOrLacks (line_feeds bytes) answer
  pub plain : (image name bytes : List ℕ) (info : Option (List ℕ)) (new : NewImage) (answer : Result (Vec ℕ) ArchiveFault) → has_return bytes ≡ false
      → PutsFile image name put_as.Text bytes info (Ok new) → Gets new.bytes.items (OfName name) get_as.Text answer → GivesOrLacks bytes answer

-- no LF stands in a line, and no CR at its end
abbrev pub is_line : List ℕ → Bool
is_line [] = true
is_line (byte ∷ []) = not (nat_eq byte 0o12) && not (nat_eq byte 0o15)
is_line (byte ∷ next ∷ others) = not (nat_eq byte 0o12) && is_line (next ∷ others)

abbrev pub AreLines : List (List ℕ) → Type 0
AreLines [] = Unit {0}
AreLines (line ∷ lines) = (is_line line ≡ true) × AreLines lines

-- each line of a text ends with CR LF, before which no other CR stands
pub record HasLineEnds (chars : List ℕ) : Type 0 where
  pub lines : List (List ℕ)
  pub last : List ℕ
  pub chars_are : chars ≡ lines_text (0o15 ∷ 0o12 ∷ []) lines last
  pub are_lines : AreLines lines
  pub unbroken : is_unbroken last ≡ true

-- a text of a file with such line ends, that is got as a text and put as one again, has its words again, and so its frames
abbrev pub TextComesBack : Type 0
TextComesBack = (image other again chars : List ℕ) (wanted : Target) (info : Option (List ℕ)) (given : Vec ℕ) (new : NewImage) → is_storable chars ≡ true → HasLineEnds chars
    → IsFile image wanted (text_words chars) → Gets image wanted get_as.Text (Ok given) → PutsFile other again put_as.Text given.items info (Ok new)
    → IsFile new.bytes.items (OfName again) (text_words chars)

-- another file that could be got is got in the same form with the same bytes, or memory is wanted
abbrev pub OthersStay : Type 0
OthersStay = (image name bytes : List ℕ) (one : Target) (info : Option (List ℕ)) (kind : PutForm) (form : GetForm) (new : NewImage) (before : Vec ℕ)
    (answer : Result (Vec ℕ) ArchiveFault) (blocks : List (List ℕ)) → IsImageOf image blocks → asked_name blocks one ≢ typed_name name → PutsFile image name kind bytes info (Ok new)
    → Gets image one form (Ok before) → Gets new.bytes.items one form answer
    → GivesOrLacks before.items answer

-- ## The extents that a check lists

-- an extent: what its line begins with, its first block, and how many blocks it has
pub record Extent : Type 0 where
  pub label : List ℕ
  pub place : ℕ
  pub size : ℕ

-- what an entry's line begins with
abbrev pub entry_label : DirEntry → List ℕ
entry_label (File name info size) = codes "FILE " ++ text_of name ++ 0o40 ∷ []
entry_label (Empty size) = codes "EMPTY "

-- the extents of entries, the first of which begins at a block
abbrev pub entry_extents : ℕ → List DirEntry → List Extent
entry_extents place [] = []
entry_extents place (entry ∷ entries) =
    record { label = entry_label entry; place = place; size = size_of entry } ∷ entry_extents (place + size_of entry) entries

-- the extent of blocks that the directory does not cover; of none there is none
abbrev pub outside_extents : ℕ → ℕ → List Extent
outside_extents place zero = []
outside_extents place (suc more) = record { label = codes "OUTSIDE "; place = place; size = suc more } ∷ []

-- the extents of a volume of so many blocks with this directory
abbrev pub extents : ℕ → DirectoryState → List Extent
extents count d = outside_extents FIRST_FILE_BLOCK (d.first - FIRST_FILE_BLOCK) ++ entry_extents d.first d.entries ++ outside_extents (end_of d) (count - end_of d)

-- the lines of extents
abbrev pub extent_lines : List Extent → List ℕ
extent_lines [] = []
extent_lines (e ∷ es) = e.label ++ extent_text e.place e.size ++ extent_lines es

-- extents follow one another from a block to an end, and each has a block
abbrev pub FollowOneAnother : ℕ → ℕ → List Extent → Type 0
FollowOneAnother from end [] = from ≡ end
FollowOneAnother from end (e ∷ es) = (e.place ≡ from) × (0 < e.size) × FollowOneAnother (from + e.size) end es

-- an extent has a block
abbrev pub has_block : Extent → ℕ → Bool
has_block e block = nat_le e.place block && nat_lt block (e.place + e.size)

-- how many extents have a block
abbrev pub count_having : ℕ → List Extent → ℕ
count_having block [] = 0
count_having block (e ∷ es) = if has_block e block then suc (count_having block es) else count_having block es

-- After the lines of the blocks and the segments a text lists extents. They follow one another from block 7 to the image's end:
-- each block from 7 on is in just one.
pub record TellsEachBlock (image text : List ℕ) : Type 0 where
  pub blocks : List (List ℕ)
  pub is_image : IsImageOf image blocks
  pub directory : DirectoryState
  pub read : directory_of blocks ≡ Ok directory
  pub lines : text ≡ blocks_line (length blocks) ++ segment_lines 6 blocks 1 ++ extent_lines (extents (length blocks) directory)
  pub follow : FollowOneAnother FIRST_FILE_BLOCK (length blocks) (extents (length blocks) directory)
  pub once : (block : ℕ) → FIRST_FILE_BLOCK ≤ block → block < length blocks → count_having block (extents (length blocks) directory) ≡ 1

-- a check lists each block from 7 on just once
abbrev pub ChecksTellEachBlock : Type 0
ChecksTellEachBlock = (image : List ℕ) (text : Vec ℕ) → Checks image (Ok text) → TellsEachBlock image text.items

-- ## The segments that a check lists

-- Segments follow one another from a link on: each stands in the block that the link before it names, one of 1 to 6. The last has the
-- link 0 (OS/8 Software Support Manual).
abbrev pub AreLinked : List (List ℕ) → ℕ → List ℕ → Type 0
AreLinked blocks link [] = link ≡ 0
AreLinked blocks link (number ∷ numbers) = (number ≡ link) × (0 < number) × (number < FIRST_FILE_BLOCK) × AreLinked blocks (word (block blocks number) 2) numbers

-- what a directory is read as with the segments in these blocks, one after another
abbrev pub read_on : List (List ℕ) → DirectoryState → List ℕ → Result DirectoryState DirFault
read_on blocks d [] = Ok d
read_on blocks d (number ∷ numbers) = with_segment (length blocks) d number (block blocks number) >>= (λ more. read_on blocks more numbers)

-- the lines of segments in these blocks
abbrev pub lines_of_segments : List (List ℕ) → List ℕ → List ℕ
lines_of_segments blocks [] = []
lines_of_segments blocks (number ∷ numbers) = segment_line number (word (block blocks number) 0) ++ lines_of_segments blocks numbers

-- after the line of the blocks a text lists the segments of which the directory was read, each once, in the order of their links
pub record TellsEachSegment (image text : List ℕ) : Type 0 where
  pub blocks : List (List ℕ)
  pub is_image : IsImageOf image blocks
  pub directory : DirectoryState
  pub read : directory_of blocks ≡ Ok directory
  pub numbers : List ℕ
  pub linked : AreLinked blocks 1 numbers
  pub distinct : AreDistinct numbers
  pub head : DirectoryState
  pub begun : head_of (length blocks) (block blocks 1) ≡ Ok head
  pub read_of : read_on blocks head numbers ≡ Ok directory
  pub lines : text ≡ blocks_line (length blocks) ++ lines_of_segments blocks numbers ++ extent_lines (extents (length blocks) directory)

-- a check lists each segment that was read, and no other
abbrev pub ChecksTellEachSegment : Type 0
ChecksTellEachSegment = (image : List ℕ) (text : Vec ℕ) → Checks image (Ok text) → TellsEachSegment image text.items
