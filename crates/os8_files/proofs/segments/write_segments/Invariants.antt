use Rattle.std.proofs.Common.{◌≡◌}
use Rattle.volume_image.specs.Volume.{IsVolume}
use Rattle.os8_files.specs.Mounted.{AreSegments}
use Rattle.os8_files.specs.Calls.{counted_more}
use Rattle.os8_files.specs.WriteSteps.{count_of_changed, with_segments}
use Rattle.os8_files.proofs.segments.write_segments.Given as goal

abbrev pub invariant-loop-number : goal.invariant-loop-number
invariant-loop-number g l = record {
  contents : g.S.BlockStore.contents l.store ≡ with_segments l.number l.directory (g.S.BlockStore.contents l.fn.store);
  kept : AreSegments (g.S.BlockStore.contents l.store) l.kept;
  volume : IsVolume (g.S.BlockStore.contents l.store);
  reads : g.S.BlockStore.reads l.store ≡ g.S.BlockStore.reads l.fn.store;
  failed_reads : g.S.BlockStore.failed_reads l.store ≡ g.S.BlockStore.failed_reads l.fn.store;
  writes : g.S.BlockStore.writes l.store ≡ counted_more (count_of_changed l.number l.directory (g.S.BlockStore.contents l.fn.store)) (g.S.BlockStore.writes l.fn.store);
  failed_writes : g.S.BlockStore.failed_writes l.store ≡ g.S.BlockStore.failed_writes l.fn.store;
}
