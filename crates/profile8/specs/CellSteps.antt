-- Cells that were fetched, on the way, for private clauses.
use Rattle.std.specs.Prelude.{ℕ, zero, suc, ◌-◌, ◌^◌, nat_lt, if◌then◌else◌, List, [], ◌∷◌, ◌++◌}
use Rattle.std.specs.List.Sorted.{IsPermutation, IsSortedByKey, IsStableByKey}
use Rattle.std.specs.Ordering.{nat_cmp}
use Rattle.profile8.specs.Profile.{count_of}

-- a cell, if it was fetched
abbrev pub if_fetched : List ℕ → ℕ → List ℕ
if_fetched counts cell = if nat_lt 0 (count_of counts cell) then cell ∷ [] else []

-- the cells below a number that were fetched, the lowest first
unfoldable pub cells_below : List ℕ → ℕ → List ℕ
cells_below counts zero = []
cells_below counts (suc cell) = cells_below counts cell ++ if_fetched counts cell

-- by this number cells are sorted: more fetches have a lower one
abbrev pub rank : List ℕ → ℕ → ℕ
rank counts cell = 2 ^ 64 - 1 - count_of counts cell

-- the same cells, those of more fetches first, those of as many in the order that they have
pub record AreSorted (counts old new : List ℕ) : Type 0 where
  pub permutation : IsPermutation old new
  pub sorted : IsSortedByKey (rank counts) nat_cmp new
  pub stable : IsStableByKey (rank counts) nat_cmp old new
