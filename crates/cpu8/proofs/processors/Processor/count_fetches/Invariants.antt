use Rattle.std.proofs.Common.{◌≡◌, ◌-◌, ◌≤◌, true}
use Rattle.cpu8.specs.State.{with_core}
use Rattle.cpu8.specs.Go.{after}
use Rattle.cpu8.specs.QuietSteps.{is_quiet}
use Rattle.cpu8.specs.Unasked.{AreUnasked}
use Rattle.cpu8.specs.Fetches.{AddsFetches}
use Rattle.cpu8.proofs.processors.Processor.count_fetches.Given as goal

abbrev pub invariant-loop-left : goal.invariant-loop-left
invariant-loop-left l = record {
  state : with_core l.self l.core ≡ after true (l.n - l.left) (with_core l.fn.self l.fn.core);
  quiet : is_quiet true (with_core l.self l.core) ≡ true;
  unasked : AreUnasked (with_core l.fn.self l.fn.core) (l.n - l.left);
  interrupts : l.self.interrupts_on ≡ l.fn.self.interrupts_on;
  adds : AddsFetches (l.n - l.left) (with_core l.fn.self l.fn.core) l.fn.counts l.counts;
  within : l.left ≤ l.n;
}

abbrev pub decreases-loop-left : goal.decreases-loop-left
decreases-loop-left l = l.left
