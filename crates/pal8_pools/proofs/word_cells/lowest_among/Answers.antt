use Rattle.std.proofs.Common.{◌∙◌, arith, sym}
use Rattle.pal8_pools.proofs.ClashLemmas.{lowest_found, none_so_far}
use Rattle.pal8_pools.proofs.word_cells.lowest_among.Goals as goal

pub returns-then-is_clash : goal.returns-then-is_clash
returns-then-is_clash c = λ words asks punched are holds.
    lowest_found words asks c.args.first c.loop-at.at c.args.end c.of.result c.of.ensures.number c.loop-at.invariant.low c.loop-at-test.true
    (sym (c.is_clash.ensures words asks punched are holds) ∙ c.if-is_clash.true) (c.loop-at.invariant.none words asks punched are holds)

pub loop-at-preserved : goal.loop-at-preserved
loop-at-preserved c = record {
  none = λ words asks punched are holds.
      none_so_far words asks c.args.first c.loop-at.at (c.loop-at.invariant.none words asks punched are holds)
      (sym (c.is_clash.ensures words asks punched are holds) ∙ c.if-is_clash.false);
  low = omega (arith, c.loop-at.invariant.low);
}

pub returns : goal.returns
returns c = λ words asks punched are holds d first last.
    c.loop-at.invariant.none words asks punched are holds d first (omega (arith, c.loop-at-test.false, last))
