-- Counts on the way.
use Rattle.std.specs.Prelude.{ℕ, ◌+◌, Bool, true, false, List, slice_index_or, slice_set}

-- the counts after a cell's count rose by one, if its word was fetched
abbrev pub counts_with : List ℕ → ℕ → Bool → List ℕ
counts_with counts cell true = slice_set counts cell (slice_index_or counts cell 0 + 1)
counts_with counts cell false = counts
