use Rattle.std.proofs.Common.{◌≡◌, ◌+◌, ◌-◌, ◌≤◌, length}
use Rattle.archive_survey.specs.Lines.{run_length}
use Rattle.archive_survey.specs.Steps.{is_two}
use Rattle.archive_survey.proofs.claims.run_length.Given as goal

abbrev pub invariant-loop-place : goal.invariant-loop-place
invariant-loop-place l = record {
  most : l.place ≤ length l.counts;
  least : l.block ≤ l.place;
  run : l.place + run_length (is_two l.counts) (length l.counts - l.place) l.place ≡ l.block + run_length (is_two l.counts) (length l.counts - l.block) l.block;
}

abbrev pub decreases-loop-place : goal.decreases-loop-place
decreases-loop-place l = length l.counts - l.place
