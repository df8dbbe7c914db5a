use Rattle.std.proofs.Common.{◌≡◌, ℕ, ◌<◌, ◌≤◌, slice_index}
use Rattle.archive_survey.specs.Steps.{count_after}
use Rattle.archive_survey.proofs.claims.claim_range.Given as goal

abbrev pub invariant-loop-block : goal.invariant-loop-block
invariant-loop-block l = record {
  inside : (k : ℕ) → l.from ≤ k → k < l.block → slice_index l.counts k ≡ count_after 1 (slice_index l.fn.counts k);
  before : (k : ℕ) → k < l.from → slice_index l.counts k ≡ slice_index l.fn.counts k;
  following : (k : ℕ) → l.block ≤ k → slice_index l.counts k ≡ slice_index l.fn.counts k;
}
