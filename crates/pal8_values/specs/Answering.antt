-- The answer for a value.
use Rattle.std.specs.Prelude.{◌≡◌, ℕ, Result, Ok, Err, List}
use Rattle.pal8_pools.specs.Asks.{Ask}
use Rattle.pal8_pools.specs.Pooled.{Holds, PoolTable}
use Rattle.pal8_values.specs.Words.{AskResult}
use Rattle.pal8_values.specs.declared.faults.ValueFault.{ValueFault}
use Rattle.pal8_values.specs.declared.faults.ValueFault.TheVariants.{UA, PF, DZ, IR, II, PE, ZE, RL, Memory}

-- A fault is this one; want of memory may come in its place.
abbrev pub IsFault : {A : Type 0} → Result A ValueFault → ValueFault → Type 0
IsFault whole (UA name) = whole ≡ Err (UA name)
IsFault whole PF = whole ≡ Err PF
IsFault whole DZ = whole ≡ Err DZ
IsFault whole IR = whole ≡ Err IR
IsFault whole II = whole ≡ Err II
IsFault whole PE = whole ≡ Err PE
IsFault whole ZE = whole ≡ Err ZE
IsFault whole RL = whole ≡ Err RL
IsFault whole Memory = Unit {0}

-- an answer is this one
abbrev pub Answers : {A : Type 0} → Result A ValueFault → Result A ValueFault → Type 0
Answers whole (Ok found) = whole ≡ Ok found
Answers whole (Err fault) = IsFault whole fault

-- A value was found, and the pools hold what was asked up to it.
pub record IsAsked (whole : AskResult) (value : ℕ) (new : PoolTable) : Type 0 where
  pub asks : List Ask
  pub punched : List Ask
  pub is_whole : whole ≡ Ok (value, asks, punched)
  pub holds : Holds new asks punched

-- a value with its asks is answered, or its fault
abbrev pub Gives : AskResult → Result ℕ ValueFault → PoolTable → Type 0
Gives whole (Ok value) new = IsAsked whole value new
Gives whole (Err fault) new = IsFault whole fault
