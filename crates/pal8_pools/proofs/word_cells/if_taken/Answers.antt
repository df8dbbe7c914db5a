use Rattle.std.proofs.Common.{sym, ◌∙◌, ap}
use Rattle.pal8_pools.specs.Clashes.{cell_if}
use Rattle.pal8_pools.proofs.ClashLemmas.{test_is}
use Rattle.pal8_pools.proofs.word_cells.if_taken.Goals as goal

pub returns-then-is_taken : goal.returns-then-is_taken
returns-then-is_taken c = λ asks punched holds.
    ap (λ t. cell_if t c.args.cell) (sym c.if-is_taken.true ∙ test_is asks c.args.cell c.is_taken.result (c.is_taken.ensures asks punched holds))

pub returns-else-is_taken : goal.returns-else-is_taken
returns-else-is_taken c = λ asks punched holds.
    ap (λ t. cell_if t c.args.cell) (sym c.if-is_taken.false ∙ test_is asks c.args.cell c.is_taken.result (c.is_taken.ensures asks punched holds))
