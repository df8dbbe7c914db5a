-- What the heeded frames of a BIN tape say, item by item.
use Rattle.std.specs.Prelude.{◌≡◌, ℕ, ◌+◌, ◌*◌, ◌%◌, ◌<◌, ◌⊎◌, nat_eq, if◌then◌else◌, Bool, true, false, Option, Some, None, List, [], ◌∷◌, ◌++◌}
use Rattle.word12.specs.declared.sizes.TheConstants.{FIELD}

-- A leader frame, a field setting, an origin or a word, the last two by the low six bits of their two frames.
pub data Item : Type 0 where
  Leader : ℕ → Item
  Field : ℕ → Item
  Origin : ℕ → ℕ → Item
  Word : ℕ → ℕ → Item

-- 0000 or 0200 in the leader; 11fff000; 01hhhhhh and 00llllll; 00hhhhhh and 00llllll
abbrev pub frames_of : Item → List ℕ
frames_of (Leader f) = f ∷ []
frames_of (Field n) = (0o300 + 8 * n) ∷ []
frames_of (Origin high low) = (0o100 + high) ∷ low ∷ []
frames_of (Word high low) = high ∷ low ∷ []

-- A list of items has the newest first. These are its frames, in the order of the tape.
abbrev pub frames_of_items : List Item → List ℕ
frames_of_items [] = []
frames_of_items (item ∷ older) = frames_of_items older ++ frames_of item

abbrev pub has_origin : List Item → Bool
has_origin [] = false
has_origin (Origin high low ∷ older) = true
has_origin (Leader f ∷ older) = has_origin older
has_origin (Field n ∷ older) = has_origin older
has_origin (Word high low ∷ older) = has_origin older

-- the newest item is a word
abbrev pub ends_in_word : List Item → Bool
ends_in_word [] = false
ends_in_word (Word high low ∷ older) = true
ends_in_word (Leader f ∷ older) = false
ends_in_word (Field n ∷ older) = false
ends_in_word (Origin high low ∷ older) = false

-- Leader frames stand before the first origin, words after it, field settings anywhere.
abbrev pub IsPrefix : List Item → Type 0
IsPrefix [] = Unit {0}
IsPrefix (Leader f ∷ older) = ((f ≡ 0) ⊎ (f ≡ 0o200)) × (has_origin older ≡ false) × IsPrefix older
IsPrefix (Field n ∷ older) = (n < 8) × IsPrefix older
IsPrefix (Origin high low ∷ older) = (high < 0o100) × (low < 0o100) × IsPrefix older
IsPrefix (Word high low ∷ older) = (high < 0o100) × (low < 0o100) × (has_origin older ≡ true) × IsPrefix older

-- ## What the items mean

-- the field of the last field setting, else 0
abbrev pub field_after : List Item → ℕ
field_after [] = 0
field_after (Field n ∷ older) = n
field_after (Leader f ∷ older) = field_after older
field_after (Origin high low ∷ older) = field_after older
field_after (Word high low ∷ older) = field_after older

-- the last origin plus the number of words since, modulo 0o10000
abbrev pub address_after : List Item → ℕ
address_after [] = 0
address_after (Origin high low ∷ older) = 0o100 * high + low
address_after (Word high low ∷ older) = (address_after older + 1) % 0o10000
address_after (Leader f ∷ older) = address_after older
address_after (Field n ∷ older) = address_after older

-- the cell of a word that comes after these items
abbrev pub cell_after : List Item → ℕ
cell_after items = FIELD * field_after items + address_after items

-- the origin and word frames, added up
abbrev pub frame_sum : List Item → ℕ
frame_sum [] = 0
frame_sum (Origin high low ∷ older) = frame_sum older + (0o100 + high + low)
frame_sum (Word high low ∷ older) = frame_sum older + (high + low)
frame_sum (Leader f ∷ older) = frame_sum older
frame_sum (Field n ∷ older) = frame_sum older

-- what the check sum after these items has to be
abbrev pub check_sum : List Item → ℕ
check_sum items = frame_sum items % 0o10000

-- the words with their cells, in the order of the tape
abbrev pub words_of : List Item → List (ℕ × ℕ)
words_of [] = []
words_of (Word high low ∷ older) = words_of older ++ (cell_after older, 0o100 * high + low) ∷ []
words_of (Leader f ∷ older) = words_of older
words_of (Field n ∷ older) = words_of older
words_of (Origin high low ∷ older) = words_of older

-- the same without the last word
abbrev pub words_but_last : List Item → List (ℕ × ℕ)
words_but_last [] = []
words_but_last (Word high low ∷ older) = words_of older
words_but_last (Leader f ∷ older) = words_but_last older
words_but_last (Field n ∷ older) = words_but_last older
words_but_last (Origin high low ∷ older) = words_but_last older

-- the word of the last item at a cell
abbrev pub tape_map : List Item → ℕ → Option ℕ
tape_map [] cell = None
tape_map (Word high low ∷ older) cell = if nat_eq (cell_after older) cell then Some (0o100 * high + low) else tape_map older cell
tape_map (Leader f ∷ older) cell = tape_map older cell
tape_map (Field n ∷ older) cell = tape_map older cell
tape_map (Origin high low ∷ older) cell = tape_map older cell
