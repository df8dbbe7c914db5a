use Rattle.std.proofs.Common.{◌∙◌, ◌&&◌, ap, not}
use Rattle.pal8_source.specs.Pools.{is_in_pool, refers}
use Rattle.pal8_source.specs.Steps.{size_in}
use Rattle.pal8_source.proofs.PoolLemmas.{not_found}
use Rattle.pal8_source.proofs.asks.lowest_outside.Goals as goal

pub loop-k-preserved : goal.loop-k-preserved
loop-k-preserved c =
    c.loop-k.invariant
    ∙ not_found (λ from. not (is_in_pool (size_in c.args.sizes.now) from) && refers c.args.program.now c.args.cell from) c.args.first c.loop-k.k c.args.count c.is_ask.result
    c.loop-k-test.true
    (c.is_ask.ensures ∙ ap (λ from. not (is_in_pool (size_in c.args.sizes.now) from) && refers c.args.program.now c.args.cell from) c.of-from.ensures.number) c.if-is_ask.false
