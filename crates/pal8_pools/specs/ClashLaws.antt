-- What holds of words on pools' cells.
use Rattle.std.specs.Prelude.{◌≡◌, ℕ, ◌≤◌, true, false, Some, None, List}
use Rattle.pal8_pools.specs.Asks.{Ask}
use Rattle.pal8_pools.specs.Pooled.{is_cell_of}
use Rattle.pal8_pools.specs.Clashes.{has_word, lowest_clash}

-- where no cell clashes, no word's cell is a pool's
abbrev pub NoClashIsApart : Type 0
NoClashIsApart =
    (words : List (ℕ × ℕ)) (asks : List Ask) → lowest_clash asks words ≡ None → (c : ℕ) → has_word words c ≡ true → is_cell_of asks asks c ≡ false

-- a clash is a word's cell and a pool's, and each other such cell is above it
abbrev pub ClashIsLowest : Type 0
ClashIsLowest =
    (words : List (ℕ × ℕ)) (asks : List Ask) (c : ℕ) → lowest_clash asks words ≡ Some c
    → (has_word words c ≡ true) × (is_cell_of asks asks c ≡ true) × ((d : ℕ) → has_word words d ≡ true → is_cell_of asks asks d ≡ true → c ≤ d)
