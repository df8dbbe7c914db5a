use Rattle.std.proofs.Common.{◌≡◌, ◌-◌, vec_capacity}
use Rattle.history8.proofs.SearchLemmas.{HeldNot}
use Rattle.history8.proofs.searches.last_place.Given as goal

abbrev pub invariant-loop-left : goal.invariant-loop-left
invariant-loop-left g l = record {
  held : HeldNot (g.W.Watch.condition l.watch) l.entries l.checkpoints (l.count - 1) l.end l.left;
  room : vec_capacity l.spare ≡ vec_capacity l.fn.spare;
}

abbrev pub decreases-loop-left : goal.decreases-loop-left
decreases-loop-left g l = l.left
