use Rattle.std.proofs.Common.{◌≡◌, ◌+◌, ◌-◌, ◌&&◌, not}
use Rattle.pal8_source.specs.Pools.{is_in_pool, lowest, refers}
use Rattle.pal8_source.specs.Steps.{size_in}
use Rattle.pal8_source.proofs.asks.lowest_outside.Given as goal

abbrev pub invariant-loop-k : goal.invariant-loop-k
invariant-loop-k l =
    lowest (λ from. not (is_in_pool (size_in l.sizes) from) && refers l.program l.cell from) l.first l.count
    ≡ lowest (λ from. not (is_in_pool (size_in l.sizes) from) && refers l.program l.cell from) (l.first + l.k) (l.count - l.k)
