-- What the small steps of an evaluation give, for private clauses.
use Rattle.pal8_values.specs.Answering.{IsFault}
use Rattle.std.specs.Prelude.{◌≡◌, Option, Some, None, Result, Ok, Err, List, [], ◌∷◌}
use Rattle.pal8_pools.specs.Asks.{Ask}
use Rattle.pal8_pools.specs.Pooled.{Holds, PoolTable}
use Rattle.pal8_values.specs.Words.{Evaluation}
use Rattle.pal8_values.specs.declared.sums.Sum.{Sum}
use Rattle.pal8_values.specs.declared.frames.Frame.{Frame}
use Rattle.pal8_values.specs.declared.faults.ValueFault.{ValueFault}

-- the innermost of frames is taken off, if there is one
abbrev pub Pops : List Frame → Option Frame → List Frame → Type 0
Pops frames None new = (frames ≡ []) × (new ≡ [])
Pops frames (Some frame) new = frames ≡ frame ∷ new

-- A step was taken, and the pools hold what was asked up to it.
pub record IsTaken (whole : Result Evaluation ValueFault) (sum : Sum) (frames : List Frame) (new : PoolTable) : Type 0 where
  pub asks : List Ask
  pub punched : List Ask
  pub is_whole : whole ≡ Ok record { sum = sum; frames = frames; asks = asks; punched = punched }
  pub holds : Holds new asks punched

-- what a step gives, or its fault
abbrev pub Takes : Result Evaluation ValueFault → Result Sum ValueFault → List Frame → PoolTable → Type 0
Takes whole (Ok sum) frames new = IsTaken whole sum frames new
Takes whole (Err fault) frames new = IsFault whole fault
