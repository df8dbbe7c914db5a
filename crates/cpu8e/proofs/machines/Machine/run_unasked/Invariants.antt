use Rattle.std.proofs.Common.{◌≡◌, ◌-◌, ◌≤◌, true}
use Rattle.cpu8e.specs.Runs.{after}
use Rattle.cpu8e.specs.Unasked.{AreUnasked}
use Rattle.cpu8e.specs.QuickSteps.{is_quiet, Stays}
use Rattle.cpu8e.proofs.machines.Machine.run_unasked.Given as goal

-- so many steps are made, and the machine is still quiet
abbrev pub invariant-loop-left : goal.invariant-loop-left
invariant-loop-left l = record {
  state : l.self ≡ after (l.n - l.left) l.fn.self;
  unasked : AreUnasked l.looks l.fn.self (l.n - l.left);
  quiet : is_quiet l.self ≡ true;
  stays : Stays l.fn.self l.self;
  within : l.left ≤ l.n;
}

abbrev pub decreases-loop-left : goal.decreases-loop-left
decreases-loop-left l = l.left
