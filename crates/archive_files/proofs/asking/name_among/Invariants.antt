use Rattle.std.proofs.Common.{◌≡◌, ◌+◌, length}
use Rattle.os8_dir.specs.Entries.{total}
use Rattle.archive_files.specs.AskSteps.{name_of_entries}
use Rattle.archive_files.proofs.asking.name_among.Given as goal

abbrev pub invariant-loop-rest : goal.invariant-loop-rest
invariant-loop-rest l = record {
  name : name_of_entries l.place l.at l.rest ≡ name_of_entries l.place l.fn.first l.fn.entries;
  blocks : l.at + total l.rest ≡ l.fn.first + total l.fn.entries;
}

abbrev pub decreases-loop-rest : goal.decreases-loop-rest
decreases-loop-rest l = length l.rest
