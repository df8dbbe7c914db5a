-- What a tape of words with their cells says, and what its frames are.
use Rattle.std.specs.Prelude.{ℕ, ◌+◌, ◌/◌, ◌%◌, nat_eq, ◌&&◌, if◌then◌else◌, Bool, false, Option, Some, None, reverse, replicate, List, [], ◌∷◌, ◌++◌}
use Rattle.word12.specs.declared.sizes.TheConstants.{FIELD}
use Rattle.bin_tape.specs.Items.{Item, Leader, Field, Origin, Word, frames_of_items, check_sum}

-- a word, and an origin, by their high and low six bits
abbrev pub word_item : ℕ → Item
word_item word = Word (word / 0o100) (word % 0o100)

abbrev pub origin_item : ℕ → Item
origin_item address = Origin (address / 0o100) (address % 0o100)

-- the field that words go to after a word for this cell, or after none
abbrev pub next_field : Option ℕ → ℕ
next_field None = 0
next_field (Some before) = before / FIELD

-- Whether a word for the cell needs no origin after a word for the cell before: it has the next address of the same
-- field. Nothing is next after address 7777, nor after no word.
abbrev pub is_next : Option ℕ → ℕ → Bool
is_next None cell = false
is_next (Some before) cell = nat_eq (cell / FIELD) (before / FIELD) && nat_eq (cell % FIELD) (before % FIELD + 1)

-- the items, and a field setting where the field changes
abbrev pub with_field : Option ℕ → ℕ → List Item → List Item
with_field before cell items = if nat_eq (cell / FIELD) (next_field before) then items else Field (cell / FIELD) ∷ items

-- the items, and an origin where the cell isn't the next
abbrev pub with_origin : Option ℕ → ℕ → List Item → List Item
with_origin before cell items = if is_next before cell then items else origin_item (cell % FIELD) ∷ items

-- the items, and those of one more cell and word after the cell before
abbrev pub with_pair : Option ℕ → ℕ → ℕ → List Item → List Item
with_pair before cell word items = word_item word ∷ with_origin before cell (with_field before cell items)

-- the cell of the newest pair
abbrev pub newest_cell : List (ℕ × ℕ) → Option ℕ
newest_cell [] = None
newest_cell (pair ∷ older) = Some pair.0

abbrev pub leader : List Item
leader = replicate 16 (Leader 0o200)

-- The items of these cells and words, both newest first: a leader, and what each pair adds after the pair before it.
abbrev pub items_of : List (ℕ × ℕ) → List Item
items_of [] = leader
items_of (pair ∷ older) = with_pair (newest_cell older) pair.0 pair.1 (items_of older)

-- the frames of a tape of these items: their own, the check sum and the trailer
abbrev pub tape_with : List Item → List ℕ
tape_with items = frames_of_items (word_item (check_sum items) ∷ items) ++ replicate 16 0o200

-- the frames that are written for these cells and words, which stand in the order of the tape
unfoldable pub tape_of : List (ℕ × ℕ) → List ℕ
tape_of pairs = tape_with (items_of (reverse pairs))
