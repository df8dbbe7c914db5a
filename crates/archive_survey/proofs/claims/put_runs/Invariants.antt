use Rattle.std.proofs.Common.{◌≡◌, ◌+◌, ◌-◌, ◌≤◌, ◌++◌, false, length}
use Rattle.archive_survey.specs.Lines.{run_lines, count_runs}
use Rattle.archive_survey.specs.Steps.{is_two}
use Rattle.archive_survey.proofs.claims.put_runs.Given as goal

abbrev pub invariant-loop-block : goal.invariant-loop-block
invariant-loop-block l = record {
  lines : l.out.items ++ run_lines (is_two l.counts) l.before (length l.counts - l.block) l.block ≡ l.fn.out.items ++ run_lines (is_two l.counts) false (length l.counts) 0;
  count : l.runs + count_runs (is_two l.counts) l.before (length l.counts - l.block) l.block ≡ count_runs (is_two l.counts) false (length l.counts) 0;
  most : l.runs ≤ l.block;
}
