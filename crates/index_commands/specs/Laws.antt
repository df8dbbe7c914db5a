-- What holds of texts whose columns line up.
use Rattle.std.specs.Prelude.{◌≡◌, ℕ, zero, suc, ◌+◌, ◌≤◌, nat_eq, Bool, true, false, List, [], ◌∷◌, get_or}
use Rattle.index_commands.specs.TextColumns.{with_columns, cells_after, goes_on, places_after, places_by}

-- at which place of the terminal's line a column begins: after the widths of those before it, and two blanks after each
abbrev pub start : List ℕ → ℕ → ℕ
start widths zero = 0
start widths (suc column) = start widths column + get_or widths column 0 + 2

-- how many cells of the last line of a text are ended, where its first line has so many before it
abbrev pub cells_of : ℕ → List ℕ → ℕ
cells_of cells [] = cells
cells_of cells (byte ∷ bytes) = cells_of (cells_after cells byte) bytes

-- how many places its last cell takes
abbrev pub places_of : ℕ → List ℕ → ℕ
places_of places [] = places
places_of places (byte ∷ bytes) = places_of (places_after places byte) bytes

-- no cell that a tab ends is wider than its column
abbrev pub FitsBy : Bool → List ℕ → ℕ → ℕ → Type 0
FitsBy true widths cells places = places ≤ get_or widths cells 0
FitsBy false widths cells places = Unit {0}

abbrev pub Fits : List ℕ → ℕ → ℕ → List ℕ → Type 0
Fits widths cells places [] = Unit {0}
Fits widths cells places (byte ∷ bytes) = FitsBy (nat_eq byte 0o11) widths cells places × Fits widths (cells_after cells byte) (places_after places byte) bytes

-- at which place of its line a text without tabs ends at a terminal
abbrev pub cursor : ℕ → List ℕ → ℕ
cursor place [] = place
cursor place (byte ∷ bytes) = cursor (places_by false (nat_eq byte 0o12) (goes_on byte) place) bytes

-- Where cells fit, each byte of a cell stands as far after its column's beginning as in its cell. So the cells of a column begin below each
-- other.
abbrev pub ColumnsLineUp : Type 0
ColumnsLineUp = (widths text : List ℕ) → Fits widths 0 0 text → cursor 0 (with_columns widths text) ≡ start widths (cells_of 0 text) + places_of 0 text
