-- What the small steps give, for private clauses.
use Rattle.std.specs.Prelude.{◌≡◌, ℕ, ◌<◌, ◌≤◌, Bool, true, false, ◌&&◌, Option, Some, None, List}
use Rattle.pal8_pools.specs.Asks.{Ask}
use Rattle.pal8_pools.specs.Pooled.{is_cell_of}
use Rattle.pal8_pools.specs.Clashes.{has_word}

-- the cell is a word's and a pool's
abbrev pub is_clash : List (ℕ × ℕ) → List Ask → ℕ → Bool
is_clash words asks c = has_word words c && is_cell_of asks asks c

-- Among the cells from a first one up to a last one, the first included and the last not, this is the lowest that is a word's and a
-- pool's.
abbrev pub IsLowestIn : List (ℕ × ℕ) → List Ask → ℕ → ℕ → Option ℕ → Type 0
IsLowestIn words asks low high None = (c : ℕ) → low ≤ c → c < high → is_clash words asks c ≡ false
IsLowestIn words asks low high (Some c) =
    (low ≤ c) × (c < high) × (is_clash words asks c ≡ true) × ((d : ℕ) → low ≤ d → d < c → is_clash words asks d ≡ false)
