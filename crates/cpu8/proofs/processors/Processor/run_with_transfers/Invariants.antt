use Rattle.std.proofs.Common.{◌≡◌, true}
use Rattle.cpu8.specs.State.{with_core}
use Rattle.cpu8.specs.Go.{after}
use Rattle.cpu8.specs.QuietSteps.{AreQuiet, is_quiet}
use Rattle.cpu8.proofs.processors.Processor.run_with_transfers.Given as goal

abbrev pub invariant-loop-steps : goal.invariant-loop-steps
invariant-loop-steps l = record {
  state : with_core l.self l.core ≡ after l.quick l.steps (with_core l.fn.self l.fn.core);
  quiet : AreQuiet l.quick l.breaks (with_core l.fn.self l.fn.core) l.steps;
  goes_on : is_quiet l.quick (with_core l.self l.core) ≡ true;
}
