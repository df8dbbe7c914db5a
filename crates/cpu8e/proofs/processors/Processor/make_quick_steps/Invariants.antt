use Rattle.std.proofs.Common.{◌≡◌, ◌-◌, ◌≤◌, true}
use Rattle.cpu8e.specs.State.{with_core}
use Rattle.cpu8e.specs.Runs.{after}
use Rattle.cpu8e.specs.Unasked.{AreUnasked}
use Rattle.cpu8e.specs.QuickSteps.{is_quiet, Stays}
use Rattle.cpu8e.proofs.processors.Processor.make_quick_steps.Given as goal

-- so many steps are made, and the machine is still quiet
abbrev pub invariant-loop-left : goal.invariant-loop-left
invariant-loop-left l = record {
  state : with_core l.self l.core ≡ after (l.n - l.left) (with_core l.fn.self l.fn.core);
  unasked : AreUnasked l.looks (with_core l.fn.self l.fn.core) (l.n - l.left);
  quiet : is_quiet (with_core l.self l.core) ≡ true;
  stays : Stays (with_core l.fn.self l.fn.core) (with_core l.self l.core);
  within : l.left ≤ l.n;
}

abbrev pub decreases-loop-left : goal.decreases-loop-left
decreases-loop-left l = l.left
