-- A source that gives each cell its word by itself (PAL8, in this project's profile).
use Rattle.std.specs.Prelude.{ℕ, zero, suc, Option, Some, None, List, [], ◌∷◌, ◌++◌}
use Rattle.word12.specs.declared.sizes.TheConstants.{CORE}
use Rattle.word12.specs.Octal.{octal4}
use Rattle.tape_source.specs.Lines.{field_line, line_end, origin_line}

-- `FIELD` with the field of the cell, an origin with its address, and the word in octal
abbrev pub lines_of_word : ℕ → ℕ → List ℕ
lines_of_word cell word = field_line cell ++ (origin_line cell ++ (octal4 word ++ line_end))

abbrev pub lines_if : ℕ → Option ℕ → List ℕ
lines_if cell None = []
lines_if cell (Some word) = lines_of_word cell word

-- the lines of the cells below a number that have a word, by rising cell
unfoldable pub lines_below : (ℕ → Option ℕ) → ℕ → List ℕ
lines_below words zero = []
lines_below words (suc cell) = lines_below words cell ++ lines_if cell (words cell)

-- the lines of all cells that have a word, and `$`
abbrev pub plain_source : (ℕ → Option ℕ) → List ℕ
plain_source words = lines_below words CORE ++ 0o44 ∷ line_end
