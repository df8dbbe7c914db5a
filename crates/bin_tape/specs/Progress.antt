-- How far a reader of tapes is.
use Rattle.std.specs.Prelude.{ℕ, Bool}
use Rattle.bin_tape.specs.declared.readers.State.{State}

pub record Progress : Type 0 where
  -- how many frames came, as far as a number of 64 bits goes
  pub place : ℕ
  -- whether the next frame stands in a stretch that is ignored
  pub ignoring : Bool
  pub state : State
