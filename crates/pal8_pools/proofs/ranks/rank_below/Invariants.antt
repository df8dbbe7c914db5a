use Rattle.std.proofs.Common.{◌≡◌, ◌≤◌}
use Rattle.pal8_pools.specs.Steps.{rank_below}
use Rattle.pal8_pools.proofs.ranks.rank_below.Given as goal

-- the value isn't among those from this rank on
abbrev pub invariant-loop-rank : goal.invariant-loop-rank
invariant-loop-rank l = record {
  same : rank_below l.values l.last l.rank l.value ≡ rank_below l.values l.last l.count l.value;
  small : l.rank ≤ l.count;
}

abbrev pub decreases-loop-rank : goal.decreases-loop-rank
decreases-loop-rank l = l.rank
