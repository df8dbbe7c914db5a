use Rattle.std.proofs.Common.{◌≡◌, ◌+◌, ◌≤◌, drop}
use Rattle.os8_dir.specs.Entries.{total}
use Rattle.os8_dir.specs.Found.{files_at, find, extent_of}
use Rattle.os8_dir.proofs.found.find.Given as goal

abbrev pub invariant-loop-entry : goal.invariant-loop-entry
invariant-loop-entry l = record {
  same : extent_of (find l.name (files_at l.first l.entries)) ≡ extent_of (find l.name (files_at l.place (drop l.entry-index l.entries)));
  fits : l.place + total (drop l.entry-index l.entries) ≤ 4095;
}
