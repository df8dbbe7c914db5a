-- The segments of a directory among the blocks of a volume, by their content alone (OS/8 Software Support Manual; which of them are found is this
-- project's profile).
use Rattle.std.specs.Prelude.{ℕ, suc, nat_lt, if◌then◌else◌, not, ◌&&◌, Bool, Option, None, Some, Result, Ok, Err, List, [], ◌∷◌, ◌++◌, length}
use Rattle.word12.specs.declared.sizes.TheConstants.{FIRST_FILE_BLOCK}
use Rattle.os8_dir.specs.declared.entries.DirEntry.{DirEntry}
use Rattle.os8_dir.specs.declared.entries.DirEntry.TheVariants.{File, Empty}
use Rattle.os8_dir.specs.declared.faults.DirFault.{DirFault}
use Rattle.os8_dir.specs.Entries.{DirectoryState, is_zero}
use Rattle.os8_dir.specs.Reading.{◌>>=◌, head_of, with_segment, word}
use Rattle.block_scan.specs.declared.segments.Segment.{Segment}

-- the words of a block, read as the first segment of a directory of a volume of so many blocks, and as the only one
abbrev pub segment_alone : ℕ → List ℕ → Result DirectoryState DirFault
segment_alone volume words = head_of volume words >>= (λ head. with_segment volume head 1 words)

-- the name of a file; an entry of length 0 is none
abbrev pub file_name : DirEntry → Option ℕ
file_name (File name info size) = if is_zero size then None else Some name
file_name (Empty size) = None

abbrev pub or_later : Option ℕ → Option ℕ → Option ℕ
or_later (Some name) later = Some name
or_later None later = later

-- that of the first file
abbrev pub first_file : List DirEntry → Option ℕ
first_file [] = None
first_file (entry ∷ entries) = or_later (file_name entry) (first_file entries)

-- the segment at a block, if its first file has a name
abbrev pub named_segment : ℕ → Option ℕ → List Segment
named_segment place (Some name) = record { place = place; name = name } ∷ []
named_segment place None = []

abbrev pub sound_segment : ℕ → Result DirectoryState DirFault → List Segment
sound_segment place (Ok directory) = named_segment place (first_file directory.entries)
sound_segment place (Err fault) = []

-- a block after those of the volume's directory, whose words lead to one of these or to none
abbrev pub may_be_segment : ℕ → List ℕ → Bool
may_be_segment place words = not (nat_lt place FIRST_FILE_BLOCK) && nat_lt (word words 2) FIRST_FILE_BLOCK

-- a block that is a sound segment with a file
abbrev pub segment_at : ℕ → ℕ → List ℕ → List Segment
segment_at volume place words = if may_be_segment place words then sound_segment place (segment_alone volume words) else []

-- those of some blocks, the first of which has this number
abbrev pub segments_from : ℕ → ℕ → List (List ℕ) → List Segment
segments_from volume place [] = []
segments_from volume place (words ∷ blocks) = segment_at volume place words ++ segments_from volume (suc place) blocks

abbrev pub segments_among : List (List ℕ) → List Segment
segments_among blocks = segments_from (length blocks) 0 blocks
