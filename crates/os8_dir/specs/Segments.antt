-- The words of the segments that a directory is written to (OS/8 Software Support Manual; how entries are shared out
-- among segments is this project's profile).
use Rattle.std.specs.Prelude.{◌≡◌, ℕ, ◌+◌, ◌-◌, ◌*◌, ◌/◌, ◌<◌, nat_lt, if◌then◌else◌, List, [], ◌∷◌, ◌++◌, length, take, drop}
use Rattle.word12.specs.declared.sizes.TheConstants.{BLOCK}
use Rattle.os8_dir.specs.declared.entries.DirEntry.{DirEntry}
use Rattle.os8_dir.specs.declared.entries.DirEntry.TheVariants.{File, Empty}
use Rattle.os8_dir.specs.Names.{words_of_name, with_end_zeros}
use Rattle.os8_dir.specs.Entries.{DirectoryState, minus, total}
use Rattle.os8_dir.specs.Reading.{block}
use Rattle.os8_dir.specs.Found.{per_segment}

-- the words of an entry: a file's name, information words and length, or 0 and the length
abbrev pub words_of_entry : ℕ → DirEntry → List ℕ
words_of_entry info (File name words size) = words_of_name name ++ (take info words ++ minus size ∷ [])
words_of_entry info (Empty size) = 0 ∷ minus size ∷ []

-- the words of entries, one after another
abbrev pub words_of_entries : ℕ → List DirEntry → List ℕ
words_of_entries info [] = []
words_of_entries info (e ∷ es) = words_of_entry info e ++ words_of_entries info es

-- The words of a segment: how many entries, where the first begins, the block of the next segment or 0, the flag word,
-- and how many information words. Then come the entries, and zeros after them.
unfoldable pub words_of_segment : ℕ → ℕ → ℕ → List DirEntry → List ℕ
words_of_segment first info link es = with_end_zeros BLOCK (minus (length es) ∷ first ∷ link ∷ 0 ∷ minus info ∷ words_of_entries info es)

-- how many segments the entries take; no entry takes one too
abbrev pub segment_count : DirectoryState → ℕ
segment_count d = (length d.entries - 1) / per_segment d.info + 1

-- the entries before a segment that is counted from 0, and its own
abbrev pub before_segment : DirectoryState → ℕ → List DirEntry
before_segment d k = take (k * per_segment d.info) d.entries

abbrev pub entries_of : DirectoryState → ℕ → List DirEntry
entries_of d k = take (per_segment d.info) (drop (k * per_segment d.info) d.entries)

-- where the next segment stands: segment k in block k + 1, and the last links to none
abbrev pub link_of : ℕ → ℕ → ℕ
link_of count k = if nat_lt (k + 1) count then k + 2 else 0

-- the words of a segment that is counted from 0
abbrev pub segment_of : DirectoryState → ℕ → List ℕ
segment_of d k = words_of_segment (d.first + total (before_segment d k)) d.info (link_of (segment_count d) k) (entries_of d k)

-- the segments of a directory stand in blocks 1, 2 and so on
abbrev pub HoldsSegments : List (List ℕ) → DirectoryState → Type 0
HoldsSegments blocks d = (k : ℕ) → k < segment_count d → block blocks (k + 1) ≡ segment_of d k
