-- Where in a line it is refused.
use Rattle.std.specs.Prelude.{ℕ, ◌+◌, min, List, length}
use Rattle.debug_lines.specs.declared.faults.Refusal.{Refusal}

-- the column of a place, from 1, at most the one after the line's end
abbrev pub column_of : List ℕ → Refusal → ℕ
column_of line refusal = min refusal.place (length line) + 1
