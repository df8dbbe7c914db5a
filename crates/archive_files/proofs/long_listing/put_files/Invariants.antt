use Rattle.std.proofs.Common.{◌≡◌, ◌+◌, ◌++◌, length}
use Rattle.os8_dir.specs.Entries.{total}
use Rattle.archive_files.specs.LongSteps.{lines_of_entries}
use Rattle.archive_files.proofs.long_listing.put_files.Given as goal

abbrev pub invariant-loop-rest : goal.invariant-loop-rest
invariant-loop-rest l = record {
  lines : l.out.items ++ lines_of_entries l.info l.place l.rest ≡ l.fn.out.items ++ lines_of_entries l.info l.fn.first l.fn.entries;
  blocks : l.place + total l.rest ≡ l.fn.first + total l.fn.entries;
}

abbrev pub decreases-loop-rest : goal.decreases-loop-rest
decreases-loop-rest l = length l.rest
