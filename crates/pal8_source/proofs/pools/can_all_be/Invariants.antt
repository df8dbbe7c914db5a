use Rattle.std.proofs.Common.{◌≡◌}
use Rattle.pal8_source.specs.Pools.{can_all_be}
use Rattle.pal8_source.specs.Steps.{asks_in}
use Rattle.pal8_source.proofs.pools.can_all_be.Given as goal

abbrev pub invariant-loop-k : goal.invariant-loop-k
invariant-loop-k l = l.can ≡ can_all_be l.program (asks_in l.asks) l.page l.n l.k
