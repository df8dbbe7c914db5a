-- A RIM tape as a BIN tape.
use Rattle.std.specs.Prelude.{ℕ, List}
use Rattle.bin_tape.specs.Pairs.{IsTapeOf}
use Rattle.rim_tape.specs.Tape.{IsRim}

-- The frames are a RIM tape, and the others a BIN tape of just its words: each cell has the last word there.
pub record IsBinOf (frames bin : List ℕ) : Type 0 where
  pub pairs : List (ℕ × ℕ)
  pub is_rim : IsRim frames pairs
  pub is_bin : IsTapeOf bin pairs
