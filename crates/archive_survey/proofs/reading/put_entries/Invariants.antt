use Rattle.std.proofs.Common.{◌≡◌, ◌+◌, ◌*◌, ◌≤◌, ◌++◌}
use Rattle.archive_survey.specs.Findings.{blocks_in, entries_at}
use Rattle.archive_survey.proofs.reading.put_entries.Given as goal

abbrev pub invariant-loop-left : goal.invariant-loop-left
invariant-loop-left l = record {
  entries : l.out.items ++ entries_at l.left l.info l.place l.rest ≡ l.fn.out.items ++ entries_at l.count l.info l.first l.words;
  sizes : l.place + blocks_in (entries_at l.left l.info l.place l.rest) ≡ l.first + blocks_in (entries_at l.count l.info l.first l.words);
  range : l.place + 4096 * l.left ≤ l.first + 4096 * l.count;
}

abbrev pub decreases-loop-left : goal.decreases-loop-left
decreases-loop-left l = l.left
