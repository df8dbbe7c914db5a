use Rattle.std.proofs.Common.{◌≡◌, ◌+◌, ◌≤◌, drop}
use Rattle.os8_dir.specs.Entries.{total}
use Rattle.os8_dir.specs.Found.{free_blocks}
use Rattle.os8_dir.proofs.found.free_blocks.Given as goal

abbrev pub invariant-loop-entry : goal.invariant-loop-entry
invariant-loop-entry l = record {
  same : free_blocks l.entries ≡ l.free + free_blocks (drop l.entry-index l.entries);
  fits : l.free + total (drop l.entry-index l.entries) ≤ 4095;
}
