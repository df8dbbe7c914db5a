use Rattle.std.proofs.Common.{◌≡◌, ◌+◌, ◌-◌}
use Rattle.pal8_source.specs.Pools.{lowest, refers}
use Rattle.pal8_source.proofs.asks.lowest_own.Given as goal

abbrev pub invariant-loop-k : goal.invariant-loop-k
invariant-loop-k l = lowest (refers l.program l.cell) l.first l.count ≡ lowest (refers l.program l.cell) (l.first + l.k) (l.count - l.k)
