-- How the values of pools lie: by cell, beside how many each page has. The page p of field f has the number 32 f + p.
use Rattle.std.specs.Prelude.{◌≡◌, ℕ, ◌+◌, ◌-◌, ◌*◌, ◌<◌, ◌≤◌, slice_index, zero, suc, List, [], ◌∷◌}
use Rattle.pal8_pools.specs.Asks.{Ask, IsAsked, count, end, pool_of}

-- so many values from the last cell of a page on, downwards; the newest first
abbrev pub values_below : List ℕ → ℕ → ℕ → List ℕ
values_below values last zero = []
values_below values last (suc n) = slice_index values (last - n) ∷ values_below values last n

-- the values and their numbers are those of these asks
pub record HoldsValues (values counts : List ℕ) (asks : List Ask) : Type 0 where
  pub pools : (f p : ℕ) → f < 8 → p < 32 → values_below values (end f p) (slice_index counts (32 * f + p)) ≡ pool_of asks f p
  pub few : (f p : ℕ) → f < 8 → p < 32 → count asks f p ≤ 0o200
  pub in_core : (a : Ask) → IsAsked asks a → (a.field < 8) × (a.page < 32) × (a.value < 0o10000)
