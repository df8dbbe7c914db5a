use Rattle.std.proofs.Common.{◌≡◌, take}
use Rattle.volume_image.specs.Volume.{IsVolume}
use Rattle.os8_files.specs.Calls.{counted_more}
use Rattle.os8_files.specs.WriteSteps.{with_run}
use Rattle.os8_files.proofs.copying.write_run.Given as goal

abbrev pub invariant-loop-k : goal.invariant-loop-k
invariant-loop-k g l = record {
  contents : g.S.BlockStore.contents l.store ≡ with_run (g.S.BlockStore.contents l.fn.store) l.place (take l.k l.run);
  volume : IsVolume (g.S.BlockStore.contents l.store);
  reads : g.S.BlockStore.reads l.store ≡ g.S.BlockStore.reads l.fn.store;
  failed_reads : g.S.BlockStore.failed_reads l.store ≡ g.S.BlockStore.failed_reads l.fn.store;
  writes : g.S.BlockStore.writes l.store ≡ counted_more l.k (g.S.BlockStore.writes l.fn.store);
  failed_writes : g.S.BlockStore.failed_writes l.store ≡ g.S.BlockStore.failed_writes l.fn.store;
}
