-- The segments of a core image, as its control block lists them (this project's reading of the OS/8 Software Support Manual). Each is the
-- two words of it in the block, and a list of them has the newest first.
use Rattle.std.specs.Prelude.{◌≡◌, ℕ, ◌+◌, ◌*◌, ◌/◌, ◌%◌, ◌<◌, ◌≤◌, nat_eq, if◌then◌else◌, length, slice_index, take, drop, List, [], ◌∷◌, ◌++◌}
use Rattle.word12.specs.declared.sizes.TheConstants.{BLOCK, FIELD, PAGE}

-- Bits 1 to 5 of a segment's second word are its pages of 0200 words, 0 for all 32 of a field, and bits 6 to 8 its field.
abbrev pub pages_of : ℕ → ℕ
pages_of control = if nat_eq (control / 0o100 % 0o40) 0 then 0o40 else control / 0o100 % 0o40

abbrev pub field_of : ℕ → ℕ
field_of word = word / 8 % 8

-- a segment's first word is its first address, which begins a block
abbrev pub IsFirst : ℕ → Type 0
IsFirst first = first % BLOCK ≡ 0

-- its second word has no other bits, and its pages do not go past the end of their field
abbrev pub IsControl : ℕ → ℕ → Type 0
IsControl first control = (control < 0o4000) × (control % 8 ≡ 0) × (first + PAGE * pages_of control ≤ FIELD)

-- the blocks of a segment's words, each segment begun at a block of the file
abbrev pub blocks_of : ℕ → ℕ
blocks_of control = (pages_of control + 1) / 2

abbrev pub blocks_in : List (ℕ × ℕ) → ℕ
blocks_in [] = 0
blocks_in (segment ∷ older) = blocks_in older + blocks_of segment.1

-- words for the cells from one on
abbrev pub words_from : ℕ → List ℕ → List (ℕ × ℕ)
words_from cell [] = []
words_from cell (word ∷ words) = (cell, word) ∷ words_from (cell + 1) words

-- the cells of a segment with its words, which stand from this block of the file on
abbrev pub pairs_of : List ℕ → ℕ → ℕ × ℕ → List (ℕ × ℕ)
pairs_of words block segment =
    words_from (FIELD * field_of segment.1 + segment.0) (take (PAGE * pages_of segment.1) (drop (BLOCK * block) words))

-- the cells of all segments with their words, in the order of the file: after the control block the segments one by one
abbrev pub pairs_in : List ℕ → List (ℕ × ℕ) → List (ℕ × ℕ)
pairs_in words [] = []
pairs_in words (segment ∷ older) = pairs_in words older ++ pairs_of words (1 + blocks_in older) segment

-- The first segments that the control block lists, from its word 4 on, are these, and the words of each are in the file.
abbrev pub AreSegments : List ℕ → List (ℕ × ℕ) → Type 0
AreSegments words [] = Unit {0}
AreSegments words (segment ∷ older) =
    (slice_index words (4 + 2 * length older) ≡ segment.0) × (slice_index words (5 + 2 * length older) ≡ segment.1)
    × IsFirst segment.0 × IsControl segment.0 segment.1
    × (BLOCK * (1 + blocks_in older + blocks_of segment.1) ≤ length words)
    × AreSegments words older
