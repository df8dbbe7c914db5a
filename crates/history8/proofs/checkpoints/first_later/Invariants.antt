use Rattle.std.proofs.Common.{ℕ, ◌<◌, ◌≤◌, slice_index}
use Rattle.history8.specs.CheckpointSteps.{counts_of}
use Rattle.history8.proofs.checkpoints.first_later.Given as goal

abbrev pub invariant-loop-left : goal.invariant-loop-left
invariant-loop-left l = (k : ℕ) → 0 < k → k < l.left → slice_index (counts_of l.checkpoints) k ≤ l.count
