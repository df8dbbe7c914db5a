use Rattle.std.proofs.Common.{◌≡◌, ◌-◌, ◌++◌, ◌≤◌, vec_capacity}
use Rattle.cpu8.specs.Go.{characters_of}
use Rattle.history8.proofs.WatchLemmas.{Watched}
use Rattle.history8.proofs.watches.step_to.Given as goal

abbrev pub invariant-loop-count : goal.invariant-loop-count
invariant-loop-count g l = record {
  watched : Watched (g.S.Stop.condition l.stop) l.quick l.fn.machine l.machine l.count;
  within : l.count ≤ l.most;
  printed : l.printed.items ≡ l.fn.printed.items ++ characters_of l.quick l.count l.fn.machine;
  room : vec_capacity l.printed ≡ vec_capacity l.fn.printed;
}

abbrev pub decreases-loop-count : goal.decreases-loop-count
decreases-loop-count g l = l.most - l.count
