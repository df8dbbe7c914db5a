use Rattle.std.proofs.Common.{◌≡◌, ◌-◌, ◌<◌, ◌≤◌, vec_capacity}
use Rattle.history8.specs.Entries.{IsPlace}
use Rattle.history8.proofs.SearchLemmas.{Searched}
use Rattle.history8.proofs.searches.last_after.Given as goal

abbrev pub invariant-loop-place : goal.invariant-loop-place
invariant-loop-place g l = record {
  is_place : IsPlace l.entries l.place.count l.place.entry l.place.steps;
  low : l.fn.from.count ≤ l.place.count;
  some : 0 < l.most;
  high : l.fn.from.count < l.place.count → l.place.count ≤ l.end;
  searched : Searched (g.W.Watch.condition l.watch) l.entries l.fn.from.count l.place.count l.fn.machine l.machine l.found;
  room : vec_capacity l.spare ≡ vec_capacity l.fn.spare;
}

abbrev pub decreases-loop-place : goal.decreases-loop-place
decreases-loop-place g l = l.end - l.place.count
