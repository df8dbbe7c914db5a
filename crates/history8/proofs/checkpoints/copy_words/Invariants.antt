use Rattle.std.proofs.Common.{◌≡◌, ℕ, ◌<◌, length, slice_index}
use Rattle.history8.proofs.checkpoints.copy_words.Given as goal

abbrev pub invariant-loop-number : goal.invariant-loop-number
invariant-loop-number l = record {
  same : (k : ℕ) → k < l.number → slice_index l.to k ≡ slice_index l.from k;
  size : 0 < l.number → (length l.from ≡ 0o100000) × (length l.to ≡ 0o100000);
}
