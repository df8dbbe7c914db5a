-- What is found in a directory that may be damaged, in its order. The OS/8 Software Support Manual says how segments and entries stand.
-- The report of damage is this project's profile.
use Rattle.std.specs.Prelude.{ℕ, zero, suc, ◌+◌, ◌==◌, Bool, false, not, nat_lt, if◌then◌else◌, Option, Some, None, Result, Ok, Err, List, [], ◌∷◌, ◌++◌, length, drop}
use Rattle.os8_dir.specs.declared.entries.DirEntry.{DirEntry}
use Rattle.os8_dir.specs.declared.entries.DirEntry.TheVariants as entry
use Rattle.os8_dir.specs.declared.faults.DirFault.{DirFault}
use Rattle.os8_dir.specs.declared.faults.DirFault.TheVariants.{BadLink, BadCount, EntryPastSegment, PastVolume, SameName, WrongFirstBlock, MixedInfo}
use Rattle.os8_dir.specs.Entries.{minus, is_zero, contains}
use Rattle.os8_dir.specs.Reading.{word, block, entry_at, is_unread, is_first}
use Rattle.archive_survey.specs.declared.answers.FoundFile.{FoundFile}
use Rattle.archive_survey.specs.declared.parts.Part.{Part}
use Rattle.archive_survey.specs.declared.parts.Part.TheVariants.{Segment, Fault, File, Empty}

-- ## The parts of a directory as they stand

-- an entry from a block on
abbrev pub part_of : ℕ → DirEntry → Part
part_of place (entry.File name info size) = File name info place size
part_of place (entry.Empty size) = Empty place size

-- an entry from a block on, and the words after it; none where it goes past its segment
abbrev pub part_at : ℕ → Result (DirEntry × List ℕ) DirFault → Option (Part × List ℕ)
part_at place (Ok p) = Some (part_of place p.0, p.1)
part_at place (Err fault) = None

-- the blocks of an entry
abbrev pub blocks_of : Part → ℕ
blocks_of (Segment number count) = 0
blocks_of (Fault fault) = 0
blocks_of (File name info place size) = size
blocks_of (Empty place size) = size

-- an entry that begins at a block, and those after it; one that goes past its segment ends that
abbrev pub with_those : ℕ → Option (Part × List ℕ) → (ℕ → List ℕ → List Part) → List Part
with_those place (Some p) following = p.0 ∷ following (place + blocks_of p.0) p.1
with_those place None following = Fault EntryPastSegment ∷ []

-- so many entries with so many information words, the first of which begins at a block
abbrev pub entries_at : ℕ → ℕ → ℕ → List ℕ → List Part
entries_at zero info place words = []
entries_at (suc count) info place words = with_those place (part_at place (entry_at info words)) (entries_at count info)

-- the blocks of some entries
abbrev pub blocks_in : List Part → ℕ
blocks_in [] = 0
blocks_in (part ∷ rest) = blocks_of part + blocks_in rest

-- how many information words a segment's entries have, how many entries it has, and where the first begins
abbrev pub info_of : List ℕ → ℕ
info_of words = minus (word words 4)

abbrev pub count_of : List ℕ → ℕ
count_of words = minus (word words 0)

abbrev pub first_of : List ℕ → ℕ
first_of words = word words 1

-- the entries of a segment; with more than ten information words they can't be read
unfoldable pub segment_entries : List ℕ → List Part
segment_entries words = if nat_lt 10 (info_of words) then [] else entries_at (count_of words) (info_of words) (first_of words) (drop 5 words)

-- the block after the last entry that was read of a segment
abbrev pub segment_end : List ℕ → ℕ
segment_end words = first_of words + blocks_in (segment_entries words)

-- a fault where a test fails
abbrev pub unless : Bool → DirFault → List Part
unless holds fault = if holds then [] else Fault fault ∷ []

-- the faults of the first segment's head
abbrev pub first_faults : ℕ → List ℕ → List Part
first_faults volume words = unless (not (nat_lt 10 (info_of words))) (BadCount 1) ++ unless (is_first volume (first_of words)) WrongFirstBlock

-- the faults of a later segment's head, where the first has so many information words, and the one before it ends at a block
abbrev pub later_faults : ℕ → ℕ → ℕ → List ℕ → List Part
later_faults info end number words = unless (not (nat_lt 10 (info_of words))) (BadCount number)
    ++ unless (info_of words == info) MixedInfo
    ++ unless (first_of words == end) WrongFirstBlock

-- a later segment
abbrev pub later_segment : ℕ → ℕ → ℕ → List ℕ → List Part
later_segment info end number words = Segment number (count_of words) ∷ later_faults info end number words ++ segment_entries words

-- the segments from a link on, of which `left` may still come; the link stands in block `from`, and the segment there ends at a block
unfoldable pub later_segments : ℕ → List (List ℕ) → ℕ → List ℕ → ℕ → ℕ → ℕ → List Part
later_segments left blocks info read from end zero = []
later_segments zero blocks info read from end (suc n) = Fault (BadLink from) ∷ []
later_segments (suc left) blocks info read from end (suc n) =
    if is_unread read (suc n)
    then later_segment info end (suc n) (block blocks (suc n))
    ++ later_segments left blocks info (suc n ∷ read) (suc n) (segment_end (block blocks (suc n))) (word (block blocks (suc n)) 2)
    else Fault (BadLink from) ∷ []

-- the first segment, in block 1
abbrev pub first_segment : ℕ → List ℕ → List Part
first_segment volume words = Segment 1 (count_of words) ∷ first_faults volume words ++ segment_entries words

-- all segments, and five more may come after the first
unfoldable pub parts : List (List ℕ) → List Part
parts blocks = first_segment (length blocks) (block blocks 1)
    ++ later_segments 5 blocks (info_of (block blocks 1)) (1 ∷ []) 1 (segment_end (block blocks 1)) (word (block blocks 1) 2)

-- ## Which entries are sound

-- what is reported of a directory: a part as it stands, or an unsound entry with its fault
pub data Finding : Type 0 where
  Clean : Part → Finding
  Unsound : DirFault → Part → Finding

-- why an entry of a volume of so many blocks is unsound, where a file of its name is known or not
abbrev pub why_unsound : ℕ → ℕ → ℕ → Bool → Option DirFault
why_unsound volume place size known = if nat_lt volume (place + size) then Some PastVolume else if known then Some SameName else None

-- the report of an entry, by why it is unsound
abbrev pub with_verdict : Option DirFault → Part → List Finding
with_verdict (Some fault) part = Unsound fault part ∷ []
with_verdict None part = Clean part ∷ []

-- the report of a part, where earlier sound entries have these names; an entry of length 0 is nothing
abbrev pub finding_of : ℕ → List ℕ → Part → List Finding
finding_of volume names (Segment number count) = Clean (Segment number count) ∷ []
finding_of volume names (Fault fault) = Clean (Fault fault) ∷ []
finding_of volume names (File name info place size) = if is_zero size then [] else with_verdict (why_unsound volume place size (contains names name)) (File name info place size)
finding_of volume names (Empty place size) = if is_zero size then [] else with_verdict (why_unsound volume place size false) (Empty place size)

-- a sound file's name is known after it
abbrev pub with_name : Option DirFault → List ℕ → ℕ → List ℕ
with_name (Some fault) names name = names
with_name None names name = names ++ name ∷ []

abbrev pub names_after : ℕ → List ℕ → Part → List ℕ
names_after volume names (Segment number count) = names
names_after volume names (Fault fault) = names
names_after volume names (File name info place size) = if is_zero size then names else with_name (why_unsound volume place size (contains names name)) names name
names_after volume names (Empty place size) = names

-- the report of parts, where sound entries before them have these names
abbrev pub findings_of : ℕ → List ℕ → List Part → List Finding
findings_of volume names [] = []
findings_of volume names (part ∷ rest) = finding_of volume names part ++ findings_of volume (names_after volume names part) rest

-- what is found in a volume
unfoldable pub findings : List (List ℕ) → List Finding
findings blocks = findings_of (length blocks) [] (parts blocks)

-- ## The files that are sound

-- the file of a part
abbrev pub file_of : Part → List FoundFile
file_of (Segment number count) = []
file_of (Fault fault) = []
file_of (File name info place size) = record { name = name; info = info; place = place; size = size } ∷ []
file_of (Empty place size) = []

-- the files that are reported as sound, in order
abbrev pub files_found : List Finding → List FoundFile
files_found [] = []
files_found (Clean part ∷ rest) = file_of part ++ files_found rest
files_found (Unsound fault part ∷ rest) = files_found rest
