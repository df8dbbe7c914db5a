use Rattle.std.proofs.Common.{◌≡◌}
use Rattle.pal8_source.specs.Pools.{can_all_be, greatest}
use Rattle.pal8_source.specs.Steps.{asks_in}
use Rattle.pal8_source.proofs.pools.greatest_size.Given as goal

abbrev pub invariant-loop-k : goal.invariant-loop-k
invariant-loop-k l = l.size ≡ greatest (λ n. can_all_be l.program (asks_in l.asks) l.page n n) l.k
