-- Columns that line up (this project's profile). A tab stands between two cells of a line, and LF ends it.
use Rattle.std.specs.Prelude.{ℕ, zero, suc, ◌+◌, ◌-◌, ◌/◌, nat_eq, Bool, true, false, if◌then◌else◌, List, [], ◌∷◌, ◌++◌, get_or, replicate}

-- a byte that goes on a character of several (UTF-8)
abbrev pub goes_on : ℕ → Bool
goes_on byte = nat_eq (byte / 0o100) 2

-- how many cells of its line are before the next byte, by whether this one is a tab or LF
abbrev pub cells_by : Bool → Bool → ℕ → ℕ
cells_by true ends cells = suc cells
cells_by false true cells = 0
cells_by false false cells = cells

abbrev pub cells_after : ℕ → ℕ → ℕ
cells_after cells byte = cells_by (nat_eq byte 0o11) (nat_eq byte 0o12) cells

-- how many places of a terminal the next byte's cell has taken before it
abbrev pub places_by : Bool → Bool → Bool → ℕ → ℕ
places_by true ends more places = 0
places_by false true more places = 0
places_by false false true places = places
places_by false false false places = suc places

abbrev pub places_after : ℕ → ℕ → ℕ
places_after places byte = places_by (nat_eq byte 0o11) (nat_eq byte 0o12) (goes_on byte) places

-- the blanks after a cell: up to the width of its column, and two more
abbrev pub gap : List ℕ → ℕ → ℕ → List ℕ
gap widths cells places = replicate ((get_or widths cells 0 - places) + 2) 0o40

-- a tab stands as blanks, and another byte as it is
abbrev pub byte_or_gap : Bool → List ℕ → ℕ → List ℕ
byte_or_gap true blanks byte = blanks
byte_or_gap false blanks byte = byte ∷ []

abbrev pub text_of_byte : List ℕ → ℕ → ℕ → ℕ → List ℕ
text_of_byte widths cells places byte = byte_or_gap (nat_eq byte 0o11) (gap widths cells places) byte

-- the rest of a text, of whose line there were so many cells, and so many places of the present one
abbrev pub with_columns_from : List ℕ → ℕ → ℕ → List ℕ → List ℕ
with_columns_from widths cells places [] = []
with_columns_from widths cells places (byte ∷ bytes) = text_of_byte widths cells places byte ++ with_columns_from widths (cells_after cells byte) (places_after places byte) bytes

-- a text whose columns have these widths; a column without one has 0
abbrev pub with_columns : List ℕ → List ℕ → List ℕ
with_columns widths text = with_columns_from widths 0 0 text
