use Rattle.std.proofs.Common.{◌≡◌, ◌+◌, ◌++◌, length, map}
use Rattle.os8_dir.specs.Entries.{total}
use Rattle.show_commands.specs.DateSteps.{lines_of_entries}
use Rattle.show_commands.proofs.dated_lists.put_files.Given as goal

abbrev pub invariant-loop-rest : goal.invariant-loop-rest
invariant-loop-rest l = record {
  lines : l.out.items ++ lines_of_entries l.last l.info (map (λ word. word.bytes.items) l.words) l.place l.rest
      ≡ l.fn.out.items ++ lines_of_entries l.last l.info (map (λ word. word.bytes.items) l.words) l.fn.first l.fn.entries;
  blocks : l.place + total l.rest ≡ l.fn.first + total l.fn.entries;
}

abbrev pub decreases-loop-rest : goal.decreases-loop-rest
decreases-loop-rest l = length l.rest
