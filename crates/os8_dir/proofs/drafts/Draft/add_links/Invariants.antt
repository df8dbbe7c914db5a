use Rattle.std.proofs.Common.{◌≡◌, ℕ, ◌+◌, ◌-◌, ◌<◌, ◌≤◌, false, get_or, List, [], ◌∷◌, length}
use Rattle.os8_dir.specs.Entries.{contains}
use Rattle.os8_dir.specs.Reading.{with_links}
use Rattle.os8_dir.specs.Reads.{count_after, segments_to_fault}
use Rattle.os8_dir.proofs.drafts.Draft.add_links.Given as goal

abbrev pub invariant-loop-left : goal.invariant-loop-left
invariant-loop-left g l = record {
  contents : g.S.BlockStore.contents l.store ≡ g.S.BlockStore.contents l.fn.store;
  fits : l.left ≤ 5;
  marks : length l.seen ≡ 7;
  reads : g.S.BlockStore.reads l.store + l.left ≤ g.S.BlockStore.reads l.fn.store + 5;
  counts : g.S.BlockStore.reads l.store ≡ count_after (5 - l.left) (g.S.BlockStore.reads l.fn.store);
  failed_reads : g.S.BlockStore.failed_reads l.store ≡ g.S.BlockStore.failed_reads l.fn.store;
  failed_writes : g.S.BlockStore.failed_writes l.store ≡ g.S.BlockStore.failed_writes l.fn.store;
  writes : g.S.BlockStore.writes l.store ≡ g.S.BlockStore.writes l.fn.store;
  read : (read : List ℕ)
      × ((k : ℕ) → k < 7 → get_or l.seen k false ≡ contains read k)
      × (segments_to_fault 5 l.fn.self (g.S.BlockStore.contents l.fn.store) (1 ∷ []) l.fn.first_link ≡ 5 - l.left + segments_to_fault l.left l.self (g.S.BlockStore.contents l.fn.store) read l.link)
      × (with_links 5 l.fn.self (g.S.BlockStore.contents l.fn.store) (1 ∷ []) 1 l.fn.first_link ≡ with_links l.left l.self (g.S.BlockStore.contents l.fn.store) read l.from l.link);
}

abbrev pub decreases-loop-left : goal.decreases-loop-left
decreases-loop-left g l = l.left
