use Rattle.std.proofs.Common.{◌≡◌}
use Rattle.pal8_source.specs.Pools.{is_new}
use Rattle.pal8_source.proofs.asks.is_new.Given as goal

abbrev pub invariant-loop-j : goal.invariant-loop-j
invariant-loop-j l = l.differs ≡ is_new l.program l.page l.word l.j
