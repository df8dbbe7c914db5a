use Rattle.std.proofs.Common.{◌∙◌, ap}
use Rattle.pal8_source.specs.Pools.{refers}
use Rattle.pal8_source.proofs.PoolLemmas.{not_found}
use Rattle.pal8_source.proofs.asks.lowest_own.Goals as goal

pub loop-k-preserved : goal.loop-k-preserved
loop-k-preserved c =
    c.loop-k.invariant
    ∙ not_found (refers c.args.program.now c.args.cell) c.args.first c.loop-k.k c.args.count c.refers.result c.loop-k-test.true
    (c.refers.ensures ∙ ap (refers c.args.program.now c.args.cell) c.of-from.ensures.number) c.if-refers.false
