-- Which data is text, and how it reads (OS/8 Software Support Manual for the packed form; what counts as text is this project's
-- reading). Text is three units one after the other that are characters, in one field.
use Rattle.std.specs.Prelude.{ℕ, ◌+◌, ◌-◌, ◌*◌, ◌/◌, ◌%◌, nat_eq, nat_lt, nat_le, Bool, false, ◌&&◌, ◌||◌, if◌then◌else◌, Option, Some, None, List, [], ◌∷◌, ◌++◌}
use Rattle.word12.specs.declared.sizes.TheConstants.{FIELD}
use Rattle.source_notes.specs.declared.characters.Form.{Form}
use Rattle.source_notes.specs.declared.characters.Form.TheVariants.{Ascii, Packed, Sixbit}

-- a word that is data: one stands in the cell, and it is no instruction
abbrev pub data_of : (ℕ → Option ℕ) → (ℕ → Bool) → ℕ → Option ℕ
data_of words is_code cell = if is_code cell then None else words cell

-- ## Characters

-- a graphic character, with the top bit or without
abbrev pub is_graphic : ℕ → Bool
is_graphic byte = nat_le 0o40 (byte % 0o200) && nat_lt (byte % 0o200) 0o177

-- a character of eight bits that is one
abbrev pub is_ascii : ℕ → Bool
is_ascii byte = nat_lt byte 0o400 && is_graphic byte

-- a six-bit character as text has it: a letter, a digit, a blank, or one of , - . ? !
abbrev pub is_sixbit : ℕ → Bool
is_sixbit code =
    (nat_le 1 code && nat_le code 0o32) || ((nat_le 0o60 code && nat_le code 0o71) || (nat_eq code 0o40
    || (nat_eq code 0o54 || (nat_eq code 0o55 || (nat_eq code 0o56 || (nat_eq code 0o77 || nat_eq code 0o41))))))

-- a six-bit character in ASCII
abbrev pub sixbit_graphic : ℕ → ℕ
sixbit_graphic code = if nat_lt code 0o40 then code + 0o100 else code

-- ## Units: a word of one character, a word of two, and a pair of words, the first at an even address, of three

abbrev pub ascii_unit : Option ℕ → Bool
ascii_unit None = false
ascii_unit (Some word) = is_ascii word

abbrev pub sixbit_unit : Option ℕ → Bool
sixbit_unit None = false
sixbit_unit (Some word) = is_sixbit (word / 0o100) && is_sixbit (word % 0o100)

-- the third character of a pair: four bits of each word
abbrev pub third : ℕ → ℕ → ℕ
third first second = 0o20 * (first / 0o400) + second / 0o400

-- Three characters of one text: all have the top bit, as OS/8 writes them, or none has it. Words that are no text seldom have such characters.
abbrev pub are_alike : ℕ → ℕ → ℕ → Bool
are_alike first second third =
    (is_graphic first && (is_graphic second && is_graphic third))
    && (nat_eq (first / 0o200) (second / 0o200) && nat_eq (second / 0o200) (third / 0o200))

abbrev pub packed_unit : Option ℕ → Option ℕ → Bool
packed_unit None second = false
packed_unit (Some first) None = false
packed_unit (Some first) (Some second) = are_alike (first % 0o400) (second % 0o400) (third first second)

-- a unit of a form begins with a cell
abbrev pub unit_at : Form → (ℕ → Option ℕ) → ℕ → Bool
unit_at Ascii datum cell = ascii_unit (datum cell)
unit_at Packed datum cell = packed_unit (datum cell) (datum (cell + 1))
unit_at Sixbit datum cell = sixbit_unit (datum cell)

-- the words of a unit
abbrev pub words_of : Form → ℕ
words_of Ascii = 1
words_of Packed = 2
words_of Sixbit = 1

-- ## Three in a run

-- three units from this cell on, each so many cells after the one before, and the last in the field of the first
abbrev pub three_from : (ℕ → Bool) → ℕ → ℕ → Bool
three_from is_unit size cell =
    nat_lt (cell % FIELD + 2 * size) FIELD && (is_unit cell && (is_unit (cell + size) && is_unit (cell + 2 * size)))

-- a unit is one of three in a run
abbrev pub in_run : (ℕ → Bool) → ℕ → ℕ → Bool
in_run is_unit size cell =
    three_from is_unit size cell || ((nat_le size (cell % FIELD) && three_from is_unit size (cell - size))
    || (nat_le (2 * size) (cell % FIELD) && three_from is_unit size (cell - 2 * size)))

-- the unit of a form that begins with a cell is text
unfoldable pub is_text : Form → (ℕ → Option ℕ) → ℕ → Bool
is_text form datum cell = in_run (unit_at form datum) (words_of form) cell

-- ## How it reads: between quotes, without the top bits

abbrev pub with_quotes : List ℕ → List ℕ
with_quotes characters = 0o40 ∷ 0o47 ∷ characters ++ 0o47 ∷ []

abbrev pub ascii_text : Option ℕ → List ℕ
ascii_text None = []
ascii_text (Some word) = with_quotes (word % 0o200 ∷ [])

abbrev pub sixbit_text : Option ℕ → List ℕ
sixbit_text None = []
sixbit_text (Some word) = with_quotes (sixbit_graphic (word / 0o100) ∷ sixbit_graphic (word % 0o100) ∷ [])

abbrev pub packed_text : Option ℕ → Option ℕ → List ℕ
packed_text None second = []
packed_text (Some first) None = []
packed_text (Some first) (Some second) = with_quotes (first % 0o200 ∷ second % 0o200 ∷ third first second % 0o200 ∷ [])

-- What a datum's comment has after its word. It is characters of eight bits where it is text of these, else of the packed form,
-- at the first word of a pair, else of six bits.
abbrev pub characters : (ℕ → Option ℕ) → ℕ → List ℕ
characters datum cell =
    if is_text Ascii datum cell then ascii_text (datum cell)
    else (if nat_eq (cell % 2) 0 && is_text Packed datum cell then packed_text (datum cell) (datum (cell + 1))
    else (if nat_eq (cell % 2) 1 && is_text Packed datum (cell - 1) then []
    else (if is_text Sixbit datum cell then sixbit_text (datum cell) else [])))
