use Rattle.std.proofs.Common.{◌≡◌, ◌-◌, ◌≤◌}
use Rattle.history8.specs.History.{machine_of, with_steps}
use Rattle.history8.proofs.RunLemmas.{OnWay}
use Rattle.history8.proofs.histories.History.run.Given as goal

abbrev pub invariant-loop-steps : goal.invariant-loop-steps
invariant-loop-steps g l = record {
  way : OnWay l.quick (g.W.Watch.condition l.watch) (machine_of l.fn.self) l.steps;
  within : l.steps ≤ l.most;
  history : l.self ≡ with_steps l.quick l.steps l.fn.self;
}

abbrev pub decreases-loop-steps : goal.decreases-loop-steps
decreases-loop-steps g l = l.most - l.steps
