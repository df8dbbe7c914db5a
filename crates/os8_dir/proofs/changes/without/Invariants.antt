use Rattle.std.proofs.Common.{◌≡◌, take}
use Rattle.os8_dir.specs.Entries.{tidy}
use Rattle.os8_dir.specs.Changes.{entries_without}
use Rattle.os8_dir.proofs.changes.without.Given as goal

abbrev pub invariant-loop-entry : goal.invariant-loop-entry
invariant-loop-entry l = l.kept.items ≡ tidy (entries_without l.name (take l.entry-index l.entries))
