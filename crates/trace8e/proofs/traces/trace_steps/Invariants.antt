use Rattle.std.proofs.Common.{◌≤◌}
use Rattle.tape_source.specs.Tags.{is_flagged}
use Rattle.trace8e.specs.Papers.{GetSteps}
use Rattle.trace8e.proofs.RunLemmas.{IsTracing}
use Rattle.trace8e.proofs.traces.trace_steps.Given as goal

-- the trace has come so far, and goes on
abbrev pub invariant-loop-made : goal.invariant-loop-made
invariant-loop-made g l = record {
  tracing : IsTracing (is_flagged l.tags) l.fn.terminal l.terminal (g.O.Output.contents l.fn.writer) (g.O.Output.contents l.writer) l.lines.items l.made;
  within : l.made ≤ l.n;
  papers : GetSteps l.made l.fn.terminal l.fn.papers l.papers;
}
