use Rattle.std.proofs.Common.{◌≡◌, ◌+◌, ◌-◌, ◌≤◌, vec_capacity}
use Rattle.history8.specs.Entries.{IsPlace}
use Rattle.history8.specs.EntrySteps.{MakesAgain}
use Rattle.history8.proofs.replays.make_again.Given as goal

abbrev pub invariant-loop-replay : goal.invariant-loop-replay
invariant-loop-replay l = record {
  place : IsPlace l.entries l.replay.place.count l.replay.place.entry l.replay.place.steps;
  made : MakesAgain l.entries l.fn.from.count l.replay.place.count l.fn.machine l.machine l.replay.characters;
  few : l.fn.from.count + l.replay.characters ≤ l.replay.place.count;
  within : l.replay.place.count ≤ l.target;
  room : vec_capacity l.spare ≡ vec_capacity l.fn.spare;
}

abbrev pub decreases-loop-replay : goal.decreases-loop-replay
decreases-loop-replay l = l.target - l.replay.place.count
