use Rattle.std.proofs.Common.{◌≡◌, ℕ, ◌<◌, None, length, slice_index_or}
use Rattle.pal8_source.specs.Pools.{cell_from_end, later_ask}
use Rattle.pal8_source.specs.Steps.{size_in}
use Rattle.pal8_source.proofs.asks.later_asks.Given as goal

abbrev pub invariant-loop-k : goal.invariant-loop-k
invariant-loop-k l =
    (length l.asks.items ≡ l.k) × ((k : ℕ) → k < l.k → slice_index_or l.asks.items k None ≡ later_ask l.program (size_in l.sizes) (cell_from_end l.page k))
