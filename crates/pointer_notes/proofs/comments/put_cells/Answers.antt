use Rattle.std.proofs.Common.{◌-◌, ◌+◌, ◌∷◌, ◌++◌, drop, ap, sym, ◌∙◌, arith}
use Rattle.std.proofs.lemmas.List.{drop_all, drop_more}
use Rattle.source_notes.specs.Notes.{some_cells}
use Rattle.pointer_notes.proofs.ListLemmas.{cells_begin, cells_end, cells_many, cells_more}
use Rattle.pointer_notes.proofs.comments.put_cells.Goals as goal

pub loop-cell-init : goal.loop-cell-init
loop-cell-init c = cells_begin c.args.text.now.items c.args.cells.now

pub loop-cell-preserved : goal.loop-cell-preserved
loop-cell-preserved c =
    let next = drop_more c.args.cells.now c.loop-cell.cell-index c.cell-item.result c.loop-cell-test.true
    ∙ ap (λ x. x ∷ drop (c.loop-cell.cell-index + 1) c.args.cells.now) (sym c.cell-item.is) in
    cells_more (c.args.text.now.items ++ some_cells 8 c.args.cells.now) c.loop-cell.text.items c.put_cell.new.text.items c.args.cells.now c.loop-cell.cell-index
    c.loop-cell.left (c.loop-cell.left - 1) c.cell-item.result (omega (arith, c.if-left-eq0.false)) next c.in_ok-put_cell.ensures c.loop-cell.invariant

pub returns-then-left-eq0 : goal.returns-then-left-eq0
returns-then-left-eq0 c =
    let next = drop_more c.args.cells.now c.loop-cell.cell-index c.cell-item.result c.loop-cell-test.true
    ∙ ap (λ x. x ∷ drop (c.loop-cell.cell-index + 1) c.args.cells.now) (sym c.cell-item.is) in
    cells_many (c.args.text.now.items ++ some_cells 8 c.args.cells.now) c.loop-cell.text.items c.extend_from_slice.new.self.items c.args.cells.now
    c.loop-cell.cell-index c.loop-cell.left c.cell-item.result c.if-left-eq0.true next c.in_ok-extend_from_slice.ensures.items c.loop-cell.invariant

pub returns : goal.returns
returns c =
    cells_end (c.args.text.now.items ++ some_cells 8 c.args.cells.now) c.loop-cell.text.items c.args.cells.now c.loop-cell.cell-index c.loop-cell.left
    (drop_all c.loop-cell.cell-index c.args.cells.now c.loop-cell-test.false) c.loop-cell.invariant
