-- A core image as a BIN tape.
use Rattle.std.specs.Prelude.{ℕ, List}
use Rattle.bin_tape.specs.Pairs.{IsTapeOf}
use Rattle.core_image.specs.Image.{IsImage}

-- The words are a core image that starts at this cell, and the frames a BIN tape of just its words: each cell has the last word there.
pub record IsBinOf (words frames : List ℕ) (start : ℕ) : Type 0 where
  pub pairs : List (ℕ × ℕ)
  pub status : ℕ
  pub is_image : IsImage words pairs start status
  pub is_bin : IsTapeOf frames pairs
