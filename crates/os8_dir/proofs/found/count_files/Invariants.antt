use Rattle.std.proofs.Common.{◌≡◌, ◌+◌, ◌≤◌, drop}
use Rattle.os8_dir.specs.Found.{count_files}
use Rattle.os8_dir.proofs.found.count_files.Given as goal

abbrev pub invariant-loop-entry : goal.invariant-loop-entry
invariant-loop-entry l = record {
  same : count_files l.entries ≡ l.count + count_files (drop l.entry-index l.entries);
  few : l.count ≤ l.entry-index;
}
