-- What core has after a tape was loaded, by the words of the tape.
use Rattle.std.specs.Prelude.{◌≡◌, ◌≢◌, ◌<◌, ℕ, List, [], ◌∷◌, ◌++◌, length, slice_index}

-- none of these words is for a cell
abbrev pub HaveNone : ℕ → List (ℕ × ℕ) → Type 0
HaveNone cell [] = Unit {0}
HaveNone cell (pair ∷ others) = (pair.0 ≢ cell) × HaveNone cell others

-- Words with their cells, in their order, are laid over core. Each cell has the last word that is for it, and one for which there is none is as
-- it was.
pub record AreLaid (pairs : List (ℕ × ℕ)) (old new : List ℕ) : Type 0 where
  pub same_size : length new ≡ length old
  pub last : (before after : List (ℕ × ℕ)) (cell word : ℕ) → pairs ≡ before ++ (cell, word) ∷ after → HaveNone cell after → cell < length old → slice_index new cell ≡ word
  pub others : (cell : ℕ) → HaveNone cell pairs → cell < length old → slice_index new cell ≡ slice_index old cell
