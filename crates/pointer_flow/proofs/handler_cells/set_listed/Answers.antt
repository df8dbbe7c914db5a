use Rattle.std.proofs.Common.{◌≡◌, ◌++◌, ◌∷◌, [], ◌||◌, ◌+◌, false, slice_index_or, take, ap, sym, ◌∙◌, arith}
use Rattle.std.proofs.lemmas.List.{length-set, take_all, take_more}
use Rattle.pointer_flow.specs.Programs.{is_listed}
use Rattle.pointer_flow.proofs.HandlerLemmas.{listed_step}
use Rattle.pointer_flow.proofs.handler_cells.set_listed.Goals as goal

pub loop-cell-preserved : goal.loop-cell-preserved
loop-cell-preserved c =
    let front = take c.loop-cell.cell-index c.args.cells.now in
    let all : take (c.loop-cell.cell-index + 1) c.args.cells.now ≡ front ++ c.index.result ∷ [] =
    take_more c.args.cells.now c.loop-cell.cell-index c.cell-item.result c.loop-cell-test.true
    ∙ ap (λ x. front ++ x ∷ []) (sym c.cell-item.is ∙ sym c.index.ensures.value) in
    record {
      size = length-set c.loop-cell.flags c.index.result _ ∙ c.loop-cell.invariant.size;
      set = λ cell.
          listed_step c.loop-cell.flags c.args.flags.now cell c.index.result front (omega (arith, c.index.ensures.range, c.loop-cell.invariant.size))
          (c.loop-cell.invariant.set cell)
          ∙ ap (λ l. is_listed cell l || slice_index_or c.args.flags.now cell false) (sym all);
    }

pub returns : goal.returns
returns c = λ cell small.
    c.loop-cell.invariant.set cell
    ∙ ap (λ l. is_listed cell l || slice_index_or c.args.flags.now cell false) (take_all c.loop-cell.cell-index c.args.cells.now c.loop-cell-test.false)
