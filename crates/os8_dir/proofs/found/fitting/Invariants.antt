use Rattle.std.proofs.Common.{◌≡◌, ◌+◌, ◌≤◌, drop}
use Rattle.os8_dir.specs.Entries.{total}
use Rattle.os8_dir.specs.Found.{rooms_at}
use Rattle.os8_dir.specs.Steps.{best, or_better}
use Rattle.os8_dir.proofs.found.fitting.Given as goal

abbrev pub invariant-loop-entry : goal.invariant-loop-entry
invariant-loop-entry l = record {
  same : best l.wish (rooms_at l.first l.entries) ≡ or_better l.wish l.chosen (best l.wish (rooms_at l.place (drop l.entry-index l.entries)));
  fits : l.place + total (drop l.entry-index l.entries) ≤ 4095;
}
