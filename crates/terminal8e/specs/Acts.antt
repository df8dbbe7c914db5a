-- What a terminal asks of a machine, whatever its kind.
use Rattle.std.specs.Prelude.{ℕ, Bool, Option}
use Rattle.cpu8.specs.declared.outcomes.Stepped.{Stepped}
use Rattle.terminal8.specs.declared.absences.Absence.{Absence}

pub record Acts (S : Type 0) : Type 0 where
  pub is_running : S → Bool
  -- the program asks for a key, so many steps after the last look
  pub asks_for_key : ℕ → S → Bool
  -- where it asks for one it does nothing but wait, for ever if none comes
  pub waits_for_key : S → Bool
  -- a key of this character is struck
  pub key_struck : S → ℕ → S
  -- a step, before which the printer ends its character where it is busy
  pub printing_step : S → S × Stepped
  -- what that step does, if it is an IOT of a device that isn't there, and no interrupt
  pub absence_at : S → Option Absence
