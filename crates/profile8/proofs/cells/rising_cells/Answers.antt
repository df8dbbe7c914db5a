use Rattle.std.proofs.Common.{◌++◌, ap, sym, ◌∙◌}
use Rattle.profile8.specs.CellSteps.{cells_below, if_fetched}
use Rattle.profile8.proofs.CellLemmas.{below-next, below-none}
use Rattle.profile8.proofs.cells.rising_cells.Goals as goal

pub loop-number-init : goal.loop-number-init
loop-number-init c = c.new-cells.ensures.items ∙ sym (below-none c.args.counts.now)

pub loop-number-preserved : goal.loop-number-preserved
loop-number-preserved c =
    c.in_ok-put_fetched.ensures
    ∙ ap (λ l. l ++ if_fetched c.args.counts.now c.of.result) c.loop-number.invariant
    ∙ ap (λ n. cells_below c.args.counts.now c.loop-number.number ++ if_fetched c.args.counts.now n) c.of.ensures.number
    ∙ sym (below-next c.args.counts.now c.loop-number.number)
