use Rattle.std.proofs.Common.{◌∙◌, ◌+◌, ◌*◌, ◌/◌, ◌%◌, arith, sym, ap}
use Rattle.pal8_pools.specs.Asks.{count}
use Rattle.pal8_pools.proofs.ClashLemmas.{lowest_of_all, moved, none_is}
use Rattle.pal8_pools.proofs.word_cells.WordCells.lowest_near.Goals as goal

pub returns : goal.returns
returns c = λ words before after punched are holds stay none own zero.
    let f = c.field-field.ensures.value in
    let p = c.page_of-page.ensures.value in
    c.lower.ensures
    ∙ lowest_of_all c.pool_is_page_end.ensures c.args.pools.now words before after punched holds none _ _ stay c.lowest_on-on_zero.result c.lowest_on-on_own.result
    (moved words after _ _ _ _ c.lowest_on-on_zero.result (ap (λ x. 4096 * x + 128 * 0) f ∙ omega arith) (ap (λ x. 4096 * x + 128 * 0 + 128) f ∙ omega arith)
    (c.lowest_on-on_zero.ensures words before after punched are holds (none_is words before none) (zero ∙ ap (λ x. count before x 0) (sym f))))
    (moved words after _ _ _ _ c.lowest_on-on_own.result (ap (λ x. 4096 * x + 128 * c.page_of-page.result) f ∙ ap (λ y. 4096 * (c.args.cell / 4096) + 128 * y) p)
    (ap (λ x. 4096 * x + 128 * c.page_of-page.result + 128) f ∙ ap (λ y. 4096 * (c.args.cell / 4096) + 128 * y + 128) p)
    (c.lowest_on-on_own.ensures words before after punched are holds (none_is words before none)
    (own ∙ ap (λ x. count before x (c.args.cell % 4096 / 128)) (sym f) ∙ ap (λ y. count before c.field-field.result y) (sym p))))
