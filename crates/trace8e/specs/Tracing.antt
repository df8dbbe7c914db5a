-- What tracing a run does.
use Rattle.std.specs.Prelude.{◌≡◌, ℕ, ◌≤◌, ◌<◌, Bool, List, Option, Result, Ok, Err}
use Rattle.std.specs.Io.KnownBytes.{Appends}
use Rattle.pdp8e.specs.Terminal.{Terminal, later, GoesOn, IsRun}
use Rattle.terminal8.specs.declared.outcomes.Ended.{Ended}
use Rattle.trace8e.specs.Trace.{trace_lines}
use Rattle.trace8.specs.declared.faults.TraceFault.{TraceFault}
use Rattle.trace8.specs.declared.faults.TraceFault.TheVariants.{Memory}

-- A run of at most n steps was made, and a writer got its lines.
pub record IsTraced (tagged : ℕ → Bool) (n : ℕ) (t t' : Terminal) (w w' : Option (List ℕ)) (ended : Ended) : Type 0 where
  pub run : IsRun t n ended.steps ended.why
  pub terminal : t' ≡ later ended.steps t
  pub lines : Appends w w' (trace_lines tagged ended.steps t)

-- A fault came after so many steps. Where memory ran out a writer has got the lines of the first of them.
pub record IsCut (tagged : ℕ → Bool) (n : ℕ) (t t' : Terminal) (w w' : Option (List ℕ)) (fault : TraceFault) : Type 0 where
  pub steps : ℕ
  pub within : steps ≤ n
  pub goes_on : (k : ℕ) → k < steps → GoesOn t k
  pub terminal : t' ≡ later steps t
  pub written : ℕ
  pub first : written ≤ steps
  pub lines : fault ≡ Memory → Appends w w' (trace_lines tagged written t)

-- What a trace of at most n steps does.
abbrev pub Traces : (ℕ → Bool) → ℕ → Terminal → Terminal → Option (List ℕ) → Option (List ℕ) → Result Ended TraceFault → Type 0
Traces tagged n t t' w w' (Ok ended) = IsTraced tagged n t t' w w' ended
Traces tagged n t t' w w' (Err fault) = IsCut tagged n t t' w w' fault
