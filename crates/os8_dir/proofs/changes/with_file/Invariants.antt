use Rattle.std.proofs.Common.{◌≡◌, ◌+◌, take}
use Rattle.os8_dir.specs.Entries.{total, tidy}
use Rattle.os8_dir.specs.Changes.{entries_without, put}
use Rattle.os8_dir.proofs.changes.with_file.Given as goal

abbrev pub invariant-loop-entry : goal.invariant-loop-entry
invariant-loop-entry l = record {
  list : l.kept.items ≡ tidy (put l.first l.from l.file (entries_without l.name (take l.entry-index l.entries)));
  place : l.place ≡ l.first + total (take l.entry-index l.entries);
}
