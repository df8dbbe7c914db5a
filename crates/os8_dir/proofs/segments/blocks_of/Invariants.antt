use Rattle.std.proofs.Common.{◌≡◌, ◌+◌, drop}
use Rattle.os8_dir.specs.Entries.{total}
use Rattle.os8_dir.proofs.segments.blocks_of.Given as goal

abbrev pub invariant-loop-entry : goal.invariant-loop-entry
invariant-loop-entry l = l.blocks + total (drop l.entry-index l.entries) ≡ total l.entries
