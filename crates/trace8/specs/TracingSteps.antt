-- The steps of tracing, for private clauses.
use Rattle.std.specs.Prelude.{◌≡◌, ◌⊎◌, ℕ, ◌≤◌, Bool, List, [], ◌++◌, Option, Result, Ok, Err}
use Rattle.std.specs.Io.KnownBytes.{Appends}
use Rattle.terminal8.specs.Terminal.{Terminal, later, IsRun}
use Rattle.terminal8.specs.declared.outcomes.Ended.{Ended}
use Rattle.trace8.specs.Trace.{trace_lines}
use Rattle.trace8.specs.Tracing.{IsCut}
use Rattle.trace8.specs.declared.faults.TraceFault.{TraceFault}

-- lines were kept, or all of them handed on to a writer
abbrev pub HandsOn : List ℕ → List ℕ → Option (List ℕ) → Option (List ℕ) → Type 0
HandsOn lines lines' w w' = ((lines' ≡ lines) × Appends w w' []) ⊎ ((lines' ≡ []) × Appends w w' lines)

-- Of the lines of so many steps a writer got the first, and the others wait.
pub record AreLinesOf (lines_of : ℕ → List ℕ) (w w' : Option (List ℕ)) (lines : List ℕ) (steps : ℕ) : Type 0 where
  pub written : ℕ
  pub first : written ≤ steps
  pub handed : Appends w w' (lines_of written)
  pub in_order : lines_of written ++ lines ≡ lines_of steps

abbrev pub AreLines : (ℕ → Bool) → Terminal → Option (List ℕ) → Option (List ℕ) → List ℕ → ℕ → Type 0
AreLines tagged t w w' lines steps = AreLinesOf (λ k. trace_lines tagged k t) w w' lines steps

-- a run was made, whose last lines may wait
pub record IsTracedInto (tagged : ℕ → Bool) (n : ℕ) (t t' : Terminal) (w w' : Option (List ℕ)) (lines : List ℕ) (ended : Ended) : Type 0 where
  pub run : IsRun t n ended.steps ended.why
  pub terminal : t' ≡ later ended.steps t
  pub lines_are : AreLines tagged t w w' lines ended.steps

-- what a trace does whose last lines may wait
abbrev pub TracesInto : (ℕ → Bool) → ℕ → Terminal → Terminal → Option (List ℕ) → Option (List ℕ) → List ℕ → Result Ended TraceFault → Type 0
TracesInto tagged n t t' w w' lines (Ok ended) = IsTracedInto tagged n t t' w w' lines ended
TracesInto tagged n t t' w w' lines (Err fault) = IsCut tagged n t t' w w' fault
