-- Whether a whole directory reads through: each segment from block 1 on, and each entry of it (OS/8 Software Support Manual; that a name
-- stands once, and that the segments are six at most, is this project's profile). Of each word the low twelve bits count.
use Rattle.std.specs.Prelude.{ℕ, zero, suc, ◌+◌, ◌-◌, ◌*◌, ◌/◌, ◌%◌, ◌==◌, nat_le, min, Bool, true, false, ◌&&◌, not, if◌then◌else◌, Option, Some, None, List}
use Rattle.image_kind.specs.Heads.{minus, twelve_bits}
use Rattle.image_kind.specs.declared.directories.Blocks.{Blocks}
use Rattle.image_kind.specs.declared.directories.TheConstants.{BLOCK_BYTES, BLOCK_WORDS, TAPE_BLOCK_BYTES}

-- ## Words

-- The first byte of word k of block n. Blocks lie one after the other. On a DECtape each block has 0o200 words and one more, so a block of the
-- volume is two of these.
abbrev pub byte_of : Blocks → ℕ → ℕ → ℕ
byte_of blocks n k =
    if blocks.is_tape then blocks.start + TAPE_BLOCK_BYTES * (2 * n + k / 0o200) + 2 * (k % 0o200) else blocks.start + BLOCK_BYTES * n + 2 * k

unfoldable pub word : List ℕ → Blocks → ℕ → ℕ → ℕ
word bytes blocks n k = twelve_bits bytes (byte_of blocks n k)

-- ## Entries

-- how many words the entry has that begins with word k of block n: an empty two, a file five and its information words
abbrev pub entry_words : List ℕ → Blocks → ℕ → ℕ → ℕ → ℕ
entry_words bytes blocks info n k = if word bytes blocks n k == 0 then 2 else 5 + info

-- how many blocks it has, by its last word
abbrev pub entry_length : List ℕ → Blocks → ℕ → ℕ → ℕ → ℕ
entry_length bytes blocks info n k = minus (word bytes blocks n (k + entry_words bytes blocks info n k - 1))

-- the word of the segment and the block after an entry; none where it goes past its segment or past the volume
abbrev pub after_entry : List ℕ → Blocks → ℕ → ℕ → Option (ℕ × ℕ) → Option (ℕ × ℕ)
after_entry bytes blocks info n None = None
after_entry bytes blocks info n (Some (k, place)) =
    if nat_le (k + entry_words bytes blocks info n k) BLOCK_WORDS && nat_le (place + entry_length bytes blocks info n k) blocks.count
    then Some (k + entry_words bytes blocks info n k, place + entry_length bytes blocks info n k)
    else None

-- the word and the block after so many entries of a segment, the first of which begins at a block
abbrev pub after_entries : List ℕ → Blocks → ℕ → ℕ → ℕ → ℕ → Option (ℕ × ℕ)
after_entries bytes blocks info n place zero = Some (5, place)
after_entries bytes blocks info n place (suc count) = after_entry bytes blocks info n (after_entries bytes blocks info n place count)

-- how many entries a segment has
abbrev pub entry_count : List ℕ → Blocks → ℕ → ℕ
entry_count bytes blocks n = minus (word bytes blocks n 0)

-- ## Segments

-- the next segment, or 0, and the block after the last entry so far
abbrev pub with_link : ℕ → Option (ℕ × ℕ) → Option (ℕ × ℕ)
with_link link None = None
with_link link (Some (k, place)) = Some (link, place)

-- after the segment in block n, whose entries begin where those before it end, and have as many information words; 0 is none
abbrev pub after_segment : List ℕ → Blocks → ℕ → Option (ℕ × ℕ) → Option (ℕ × ℕ)
after_segment bytes blocks info None = None
after_segment bytes blocks info (Some (n, place)) =
    if n == 0 then Some (0, place)
    else if nat_le n 6 && (minus (word bytes blocks n 4) == info && word bytes blocks n 1 == place)
    then with_link (word bytes blocks n 2) (after_entries bytes blocks info n place (entry_count bytes blocks n))
    else None

-- after so many segments, from the one in block 1 on
abbrev pub after_segments : List ℕ → Blocks → ℕ → Option (ℕ × ℕ)
after_segments bytes blocks zero = Some (1, word bytes blocks 1 1)
after_segments bytes blocks (suc count) = after_segment bytes blocks (minus (word bytes blocks 1 4)) (after_segments bytes blocks count)

-- the block after the last entry
abbrev pub end_of : Option (ℕ × ℕ) → ℕ
end_of None = 0
end_of (Some (n, place)) = place

unfoldable pub directory_end : List ℕ → Blocks → ℕ
directory_end bytes blocks = end_of (after_segments bytes blocks 6)

-- after the last there is none
abbrev pub is_end : Option (ℕ × ℕ) → Bool
is_end None = false
is_end (Some (n, place)) = n == 0

-- ## Names

-- the name of an entry as one number
abbrev pub name_at : List ℕ → Blocks → ℕ → ℕ → ℕ
name_at bytes blocks n k =
    ((word bytes blocks n k * 0o10000 + word bytes blocks n (k + 1)) * 0o10000 + word bytes blocks n (k + 2)) * 0o10000 + word bytes blocks n (k + 3)

-- an entry is a file: no empty, and of one block at least
abbrev pub is_file : List ℕ → Blocks → ℕ → ℕ → ℕ → Bool
is_file bytes blocks info n k = not (word bytes blocks n k == 0) && not (entry_length bytes blocks info n k == 0)

-- the word after an entry
abbrev pub next_word : List ℕ → Blocks → ℕ → ℕ → ℕ → ℕ
next_word bytes blocks info n k = min (k + entry_words bytes blocks info n k) BLOCK_WORDS

-- how often a name was seen, once more where an entry is its file; 2 is more than once
abbrev pub count_at : List ℕ → Blocks → ℕ → ℕ → ℕ → ℕ → ℕ → ℕ
count_at bytes blocks info n name k times =
    if is_file bytes blocks info n k && name_at bytes blocks n k == name then min (times + 1) 2 else times

abbrev pub count_after : List ℕ → Blocks → ℕ → ℕ → ℕ → ℕ × ℕ → ℕ × ℕ
count_after bytes blocks info n name (k, times) = (next_word bytes blocks info n k, count_at bytes blocks info n name k times)

-- the word after so many entries of a segment, and how often the name was seen by then
abbrev pub count_in : List ℕ → Blocks → ℕ → ℕ → ℕ → ℕ → ℕ → ℕ × ℕ
count_in bytes blocks info n name times zero = (5, times)
count_in bytes blocks info n name times (suc count) = count_after bytes blocks info n name (count_in bytes blocks info n name times count)

abbrev pub count_in_segment : List ℕ → Blocks → ℕ → ℕ → ℕ × ℕ → ℕ × ℕ
count_in_segment bytes blocks info name (n, times) =
    if n == 0 then (0, times) else (word bytes blocks n 2, (count_in bytes blocks info n name times (entry_count bytes blocks n)).1)

-- the same of so many segments
abbrev pub count_in_segments : List ℕ → Blocks → ℕ → ℕ → ℕ → ℕ × ℕ
count_in_segments bytes blocks info name zero = (1, 0)
count_in_segments bytes blocks info name (suc count) = count_in_segment bytes blocks info name (count_in_segments bytes blocks info name count)

-- no other file of the directory has the name of an entry
abbrev pub is_single : List ℕ → Blocks → ℕ → ℕ → ℕ → Bool
is_single bytes blocks info n k =
    if is_file bytes blocks info n k then (count_in_segments bytes blocks info (name_at bytes blocks n k) 6).1 == 1 else true

abbrev pub single_after : List ℕ → Blocks → ℕ → ℕ → ℕ × Bool → ℕ × Bool
single_after bytes blocks info n (k, are) = (next_word bytes blocks info n k, are && is_single bytes blocks info n k)

abbrev pub single_in : List ℕ → Blocks → ℕ → ℕ → Bool → ℕ → ℕ × Bool
single_in bytes blocks info n are zero = (5, are)
single_in bytes blocks info n are (suc count) = single_after bytes blocks info n (single_in bytes blocks info n are count)

abbrev pub single_segment : List ℕ → Blocks → ℕ → ℕ × Bool → ℕ × Bool
single_segment bytes blocks info (n, are) =
    if n == 0 then (0, are) else (word bytes blocks n 2, (single_in bytes blocks info n are (entry_count bytes blocks n)).1)

abbrev pub single_segments : List ℕ → Blocks → ℕ → ℕ → ℕ × Bool
single_segments bytes blocks info zero = (1, true)
single_segments bytes blocks info (suc count) = single_segment bytes blocks info (single_segments bytes blocks info count)

-- ## The directory

-- its head is one of a directory, its segments follow one another to the last, of six at most, and no two files have the same name
unfoldable pub is_sound : List ℕ → Blocks → Bool
is_sound bytes blocks =
    nat_le (minus (word bytes blocks 1 4)) 10
    && (nat_le 7 (word bytes blocks 1 1)
    && (nat_le (word bytes blocks 1 1) blocks.count
    && (is_end (after_segments bytes blocks 6)
    && (single_segments bytes blocks (minus (word bytes blocks 1 4)) 6).1)))
