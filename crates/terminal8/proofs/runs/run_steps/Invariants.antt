use Rattle.std.proofs.Common.{◌≡◌, ◌-◌, ◌≤◌}
use Rattle.terminal8.proofs.RunLemmas.{IsRunning}
use Rattle.terminal8.proofs.runs.run_steps.Given as goal

-- the run has come so far, and goes on
abbrev pub invariant-loop-made : goal.invariant-loop-made
invariant-loop-made g l = record {
  running : IsRunning l.fn.form l.fn.input l.fn.machine l.machine l.operator.keyboard l.operator.ahead l.operator.is_over l.operator.since
      (g.R.ByteReader.remaining l.fn.reader) (g.R.ByteReader.remaining l.reader) (g.O.Output.contents l.fn.writer) (g.O.Output.contents l.writer) l.paper l.absences l.made;
  input : l.operator.input ≡ l.fn.input;
  sooner : l.operator.since ≤ l.made;
  within : l.made ≤ l.n;
}

abbrev pub decreases-loop-made : goal.decreases-loop-made
decreases-loop-made g l = l.n - l.made
