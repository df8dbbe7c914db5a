use Rattle.std.proofs.Common.{◌≡◌, length, take}
use Rattle.block_scan.specs.Segments.{segments_from}
use Rattle.block_scan.proofs.segments.segments_in.Given as goal

abbrev pub invariant-loop-place : goal.invariant-loop-place
invariant-loop-place l = record {
  segments : l.segments.items ≡ segments_from l.count 0 (take l.place l.fn.volume.blocks);
  size : length l.scratch.blocks ≡ l.count;
}
