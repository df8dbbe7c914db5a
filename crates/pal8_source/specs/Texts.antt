-- Words that stand as one TEXT: two characters a word, six bits each, and 00 after the last (PAL8, in this project's profile).
use Rattle.std.specs.Prelude.{ℕ, zero, suc, ◌+◌, ◌-◌, ◌/◌, ◌%◌, nat_eq, nat_lt, Bool, false, ◌||◌, ◌&&◌, not, if◌then◌else◌, Option, Some, None, unwrap_or, List, [], ◌∷◌, ◌++◌, codes}
use Rattle.word12.specs.declared.sizes.TheConstants.{FIELD}
use Rattle.pal8_source.specs.Sheets.{Sheet, is_datum}

abbrev pub word_at : Sheet → ℕ → ℕ
word_at s cell = unwrap_or (s.words cell) 0

-- How many words a text has from a word with these halves on, where it has so many after it, or 0. A low half of 00 ends it.
abbrev pub length_with : ℕ → ℕ → ℕ → ℕ
length_with high low zero = if nat_eq low 0 then 1 else 0
length_with high low (suc later) = if nat_eq low 0 then 1 else if nat_eq high 0 then 0 else suc (suc later)

-- how many words a text has that begins at a cell, and has so many cells at most, or 0
abbrev pub length_from : Sheet → ℕ → ℕ → ℕ
length_from s cell zero = 0
length_from s cell (suc most) =
    if is_datum s cell then length_with (word_at s cell / 0o100) (word_at s cell % 0o100) (length_from s (suc cell) most) else 0

-- the character of six bits, if they aren't 00
abbrev pub character : ℕ → List ℕ
character half = if nat_eq half 0 then [] else (if nat_lt half 0o40 then 0o100 + half else half) ∷ []

-- the characters of so many words
abbrev pub characters : Sheet → ℕ → ℕ → List ℕ
characters s cell zero = []
characters s cell (suc count) = character (word_at s cell / 0o100) ++ character (word_at s cell % 0o100) ++ characters s (suc cell) count

abbrev pub is_among : ℕ → List ℕ → Bool
is_among byte [] = false
is_among byte (other ∷ others) = nat_eq other byte || is_among byte others

-- the first of these that doesn't stand in a text
abbrev pub first_absent : List ℕ → List ℕ → Option ℕ
first_absent [] text = None
first_absent (byte ∷ others) text = if is_among byte text then first_absent others text else Some byte

unfoldable pub delimiters : List ℕ
delimiters = codes "/\"'.ABCDEFGHIJKLMNOPQRSTUVWXYZ"

abbrev pub size_with : ℕ → Option ℕ → ℕ
size_with count None = 0
size_with count (Some delimiter) = if nat_lt count 3 then 0 else count

-- how many words stand as a text from a cell on, three at least, or 0
unfoldable pub size_from : Sheet → ℕ → ℕ
size_from s cell =
    let count = length_from s cell (FIELD - cell % FIELD) in size_with count (first_absent delimiters (characters s cell count))

-- after a word of two characters a text goes on
abbrev pub goes_on : Sheet → ℕ → Bool
goes_on s cell = is_datum s cell && (not (nat_eq (word_at s cell % 0o100) 0) && not (nat_eq (word_at s cell / 0o100) 0))

-- a text begins where none can go on from the cell before
abbrev pub is_first : Sheet → ℕ → Bool
is_first s cell = nat_eq (cell % FIELD) 0 || not (goes_on s (cell - 1))

-- how many words stand as the text that begins at a cell, or 0
abbrev pub text_size : Sheet → ℕ → ℕ
text_size s cell = if is_first s cell then size_from s cell else 0
