use Rattle.std.proofs.Common.{◌-◌, ◌≤◌}
use Rattle.trace8e.specs.Papers.{GetSteps}
use Rattle.trace8e.proofs.ProfileRunLemmas.{IsCounting}
use Rattle.trace8e.proofs.runs.count_fetches.Given as goal

-- so many steps were counted, and the run goes on
abbrev pub invariant-loop-made : goal.invariant-loop-made
invariant-loop-made l = record {
  counting : IsCounting l.fn.terminal l.terminal l.made l.counts;
  within : l.made ≤ l.n;
  papers : GetSteps l.made l.fn.terminal l.fn.papers l.papers;
}

abbrev pub decreases-loop-made : goal.decreases-loop-made
decreases-loop-made l = l.n - l.made
