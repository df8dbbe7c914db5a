-- The breaks of a debugger, as the list that says for each cell, by its number, whether it has one.
use Rattle.std.specs.Prelude.{◌≡◌, ℕ, ◌+◌, ◌≤◌, Bool, true, false, if◌then◌else◌, List, [], ◌∷◌, replicate, slice_set, Result, Ok, Err}
use Rattle.cpu8.specs.Go.{is_break}
use Rattle.debug8.specs.declared.faults.DebugFault.{DebugFault}
use Rattle.debug8.specs.declared.faults.DebugFault.TheVariants.{TooManyBreaks, Memory}

-- no break, in so many cells
unfoldable pub no_breaks : ℕ → List Bool
no_breaks cells = replicate cells false

-- how many cells have a break
abbrev pub count_breaks : List Bool → ℕ
count_breaks [] = 0
count_breaks (b ∷ breaks) = (if b then 1 else 0) + count_breaks breaks

-- the cell has a break, and the others are as before
abbrev pub break_set : List Bool → ℕ → List Bool
break_set breaks cell = slice_set breaks cell true

-- the cell has no break, and the others are as before
abbrev pub break_cleared : List Bool → ℕ → List Bool
break_cleared breaks cell = slice_set breaks cell false

-- Setting a break: it is refused only where the cell has none and 64 others do (this project's profile).
abbrev pub SetsBreak : List Bool → ℕ → List Bool → Result (Unit {0}) DebugFault → Type 0
SetsBreak old cell new (Ok nothing) = (new ≡ break_set old cell) × (count_breaks new ≤ 64)
SetsBreak old cell new (Err TooManyBreaks) = (new ≡ old) × (is_break old cell ≡ false) × (count_breaks old ≡ 64)
SetsBreak old cell new (Err Memory) = ⊥
