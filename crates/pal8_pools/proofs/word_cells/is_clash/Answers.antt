use Rattle.std.proofs.Common.{◌&&◌, sym, ◌∙◌, ap}
use Rattle.pal8_pools.specs.Pooled.{is_cell_of}
use Rattle.pal8_pools.proofs.ClashLemmas.{test_is}
use Rattle.pal8_pools.proofs.word_cells.is_clash.Goals as goal

pub returns-then-marks-cell : goal.returns-then-marks-cell
returns-then-marks-cell c = λ words asks punched are holds.
    test_is asks c.of.result c.is_taken.result (c.is_taken.ensures asks punched holds) ∙ ap (is_cell_of asks asks) c.of.ensures.number
    ∙ ap (λ t. t && is_cell_of asks asks c.args.cell) (sym c.if-marks-cell.true ∙ are c.args.cell)
