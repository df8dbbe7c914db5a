use Rattle.std.proofs.Common.{◌≡◌, ℕ, ◌*◌, ◌≤◌, length, slice_index}
use Rattle.disk_layouts.proofs.copies.used_blocks.Given as goal

abbrev pub invariant-loop-blocks : goal.invariant-loop-blocks
invariant-loop-blocks l = record {
  zeros : (k : ℕ) → 512 * l.blocks ≤ k → slice_index l.image k ≡ 0;
  most : 512 * l.blocks ≤ length l.image;
}

abbrev pub decreases-loop-blocks : goal.decreases-loop-blocks
decreases-loop-blocks l = l.blocks
