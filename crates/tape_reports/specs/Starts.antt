-- Where a tape's program begins (this project's profile).
use Rattle.std.specs.Prelude.{ℕ, nat_eq, Bool, false, ◌||◌, if◌then◌else◌, Option, Some, None, List, [], ◌∷◌}

-- the cell of the first of these words
abbrev pub first_cell : List (ℕ × ℕ) → Option ℕ
first_cell [] = None
first_cell (word ∷ later) = Some word.0

-- one of these words goes to this cell
abbrev pub gives_word : List (ℕ × ℕ) → ℕ → Bool
gives_word [] cell = false
gives_word (word ∷ later) cell = nat_eq word.0 cell || gives_word later cell

-- The cell at which a program is started where nothing else is said. It is 00200, where programs mostly begin, if that has a word, since
-- page zero may come first with data alone. Else it is the cell of the first word.
abbrev pub start_cell : List (ℕ × ℕ) → Option ℕ
start_cell words = if gives_word words 0o200 then Some 0o200 else first_cell words
