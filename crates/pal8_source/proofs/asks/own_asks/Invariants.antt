use Rattle.std.proofs.Common.{◌≡◌, ℕ, ◌<◌, None, length, slice_index_or}
use Rattle.pal8_source.specs.Pools.{cell_from_end, own_ask}
use Rattle.pal8_source.proofs.asks.own_asks.Given as goal

abbrev pub invariant-loop-k : goal.invariant-loop-k
invariant-loop-k l =
    (length l.asks.items ≡ l.k) × ((k : ℕ) → k < l.k → slice_index_or l.asks.items k None ≡ own_ask l.program (cell_from_end l.page k))
