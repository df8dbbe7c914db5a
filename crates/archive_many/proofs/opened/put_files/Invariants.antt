use Rattle.std.proofs.Common.{◌≡◌, ◌+◌, ◌++◌, length}
use Rattle.os8_dir.specs.Entries.{total}
use Rattle.archive_many.specs.Steps.{files_of_entries}
use Rattle.archive_many.proofs.opened.put_files.Given as goal

abbrev pub invariant-loop-rest : goal.invariant-loop-rest
invariant-loop-rest l = record {
  files : l.files.items ++ files_of_entries l.place l.rest ≡ l.fn.files.items ++ files_of_entries l.fn.first l.fn.entries;
  blocks : l.place + total l.rest ≡ l.fn.first + total l.fn.entries;
}

abbrev pub decreases-loop-rest : goal.decreases-loop-rest
decreases-loop-rest l = length l.rest
