use Rattle.std.proofs.Common.{◌∙◌, ◌+◌, ◌*◌, sym, ap, subst, slice_index_or, false}
use Rattle.pal8_pools.specs.ClashSteps.{IsLowestIn}
use Rattle.pal8_pools.proofs.ClashLemmas.{page_stays}
use Rattle.pal8_pools.proofs.word_cells.WordCells.lowest_on.Goals as goal

pub returns-then-count-asked : goal.returns-then-count-asked
returns-then-count-asked c = λ words before after punched are holds none asked.
    page_stays c.pool_is_page_end.ensures c.args.pools.now words before after punched holds none c.args.field c.args.page c.requires.page
    (sym (c.count.ensures after punched holds) ∙ c.if-count-asked.true ∙ asked)

pub returns : goal.returns
returns c = λ words before after punched are holds none asked.
    subst (λ f. IsLowestIn words after (4096 * f + 128 * c.args.page) (4096 * f + 128 * c.args.page + 128) c.lowest_among.result) c.from.ensures
    (subst (λ p. IsLowestIn words after (4096 * c.from.result + 128 * p) (4096 * c.from.result + 128 * p + 128) c.lowest_among.result) c.from-2.ensures
    (c.lowest_among.ensures words after punched (λ q. ap (λ l. slice_index_or l q false) (c.deref.ensures.value ∙ c.self.view_is) ∙ are q) holds))
