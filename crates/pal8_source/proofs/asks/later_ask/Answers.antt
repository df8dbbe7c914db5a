use Rattle.std.proofs.Common.{◌+◌, ◌*◌, ◌∙◌, refl, sym, arith}
use Rattle.pal8_source.specs.Steps.{size_in}
use Rattle.pal8_source.proofs.PoolLemmas.{later_is, no_later}
use Rattle.pal8_source.proofs.asks.later_ask.Goals as goal

pub returns-then-get-ge-PAGE : goal.returns-then-get-ge-PAGE
returns-then-get-ge-PAGE c =
    sym (no_later c.args.program.now (size_in c.args.sizes.now) c.args.cell (omega (arith, c.if-get-ge-PAGE.true, c.get.ensures.value, c.address.ensures.value)))

pub returns : goal.returns
returns c =
    c.lowest_outside.ensures
    ∙ sym (later_is c.args.program.now (size_in c.args.sizes.now) c.args.cell (4096 * c.field.result + 128) 3968 (omega (arith, c.if-get-ge-PAGE.false, c.get.ensures.value, c.address.ensures.value)) (omega (arith, c.field.ensures.value)) refl)
