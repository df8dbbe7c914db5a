-- The lines that list the words of a tape.
use Rattle.std.specs.Prelude.{ℕ, zero, suc, ◌/◌, ◌%◌, Option, None, Some, List, [], ◌∷◌, ◌++◌}
use Rattle.word12.specs.declared.sizes.TheConstants.{FIELD}
use Rattle.word12.specs.Octal.{octal_digit, octal4}
use Rattle.bin_tape.specs.Items.{Item, tape_map}

-- the line of a cell with its word: field, address and word in octal
abbrev pub cell_line : ℕ → ℕ → List ℕ
cell_line cell word = octal_digit (cell / FIELD) ∷ 0o40 ∷ octal4 (cell % FIELD) ++ 0o40 ∷ octal4 word ++ 0o12 ∷ []

-- the line of a cell that a tape gives a word
abbrev pub line_of : Option ℕ → ℕ → List ℕ
line_of None cell = []
line_of (Some word) cell = cell_line cell word

-- the lines of the cells below a number, in rising order
unfoldable pub lines_below : List Item → ℕ → List ℕ
lines_below items zero = []
lines_below items (suc cell) = lines_below items cell ++ line_of (tape_map items cell) cell
