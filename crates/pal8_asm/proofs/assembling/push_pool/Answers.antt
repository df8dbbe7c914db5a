use Rattle.pal8_pools.specs.Cells.{pairs_left}
use Rattle.pal8_asm.proofs.MakingLemmas.{adds_all, adds_none, adds_one}
use Rattle.pal8_asm.proofs.assembling.push_pool.Goals as goal

pub loop-pair-init : goal.loop-pair-init
loop-pair-init c = λ asks punched holds.
    adds_none asks punched c.args.pairs.now.items (pairs_left c.cells-cells.result) (c.cells-cells.ensures asks punched holds)

pub loop-pair-preserved : goal.loop-pair-preserved
loop-pair-preserved c = λ asks punched holds.
    adds_one asks punched c.args.pairs.now.items c.loop-pair.pairs.items c.push.new.self.items (pairs_left c.loop-pair.cells) (pairs_left c.next.new.self)
    c.in-Some.pair (c.loop-pair.invariant asks punched holds) c.in-Some.ensures.steps c.in_ok-push.ensures.items

pub returns : goal.returns
returns c = λ asks punched holds.
    adds_all asks punched c.args.pairs.now.items c.loop-pair.pairs.items (pairs_left c.loop-pair.cells) (c.loop-pair.invariant asks punched holds)
    c.in_default.ensures.steps.0
