use Rattle.std.proofs.Common.{◌≡◌, take, drop, length}
use Rattle.os8_files.specs.Calls.{counted_more}
use Rattle.os8_files.proofs.copying.read_run.Given as goal

abbrev pub invariant-loop-k : goal.invariant-loop-k
invariant-loop-k g l = record {
  size : length l.run ≡ length l.fn.run;
  kept : take l.k l.run ≡ take l.k (drop l.place (g.S.BlockStore.contents l.fn.store));
  contents : g.S.BlockStore.contents l.store ≡ g.S.BlockStore.contents l.fn.store;
  reads : g.S.BlockStore.reads l.store ≡ counted_more l.k (g.S.BlockStore.reads l.fn.store);
  failed_reads : g.S.BlockStore.failed_reads l.store ≡ g.S.BlockStore.failed_reads l.fn.store;
  writes : g.S.BlockStore.writes l.store ≡ g.S.BlockStore.writes l.fn.store;
  failed_writes : g.S.BlockStore.failed_writes l.store ≡ g.S.BlockStore.failed_writes l.fn.store;
}
