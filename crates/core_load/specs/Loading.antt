-- How far a loader is.
use Rattle.std.specs.Prelude.{ℕ, List}
use Rattle.bin_tape.specs.Progress.{Progress}

pub record Loading : Type 0 where
  pub reader : Progress
  -- the words that the reader handed out, with their cells
  pub words : List (ℕ × ℕ)
