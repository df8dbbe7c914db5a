use Rattle.std.proofs.Common.{◌≡◌, ◌+◌, ◌++◌, length}
use Rattle.os8_dir.specs.Entries.{total}
use Rattle.archive_files.specs.Checking.{entry_lines}
use Rattle.archive_files.proofs.checking.put_entries.Given as goal

abbrev pub invariant-loop-rest : goal.invariant-loop-rest
invariant-loop-rest l = record {
  lines : l.out.items ++ entry_lines l.place l.rest ≡ l.fn.out.items ++ entry_lines l.fn.first l.fn.entries;
  blocks : l.place + total l.rest ≡ l.fn.first + total l.fn.entries;
}

abbrev pub decreases-loop-rest : goal.decreases-loop-rest
decreases-loop-rest l = length l.rest
