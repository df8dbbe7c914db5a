use Rattle.std.proofs.Common.{◌≡◌, ◌++◌, None, Some, slice_index_or, option_to_list, ap, sym, ◌∙◌, subst, arith}
use Rattle.std.proofs.lemmas.List.{get_or_default}
use Rattle.flow8.specs.FlowSteps.{MarksCells, exit_list}
use Rattle.flow8.proofs.FlowLemmas.{marks_more}
use Rattle.flow8.proofs.flows.mark_exits.Goals as goal

pub returns : goal.returns
returns c =
    let given : slice_index_or c.args.words.now c.args.cell None ≡ Some c.in-Some.word =
    ap (λ n. slice_index_or c.args.words.now n None) (sym c.index.ensures.value)
    ∙ get_or_default c.args.words.now c.index.result None _ (omega (arith, c.index.ensures.range, c.requires.words)) ∙ c.in-Some.is in
    let cells = ap (λ e. option_to_list e.0 ++ option_to_list e.1) c.exits-first.ensures ∙ ap (exit_list c.args.cell) (sym given) in
    subst (λ l. MarksCells c.args.words.now c.args.reached.now c.mark_exit-2.new.reached c.args.waiting.now.items c.mark_exit-2.new.waiting.items l) cells
    (marks_more c.args.words.now c.args.reached.now c.mark_exit.new.reached c.mark_exit-2.new.reached c.args.waiting.now.items c.mark_exit.new.waiting.items c.mark_exit-2.new.waiting.items
    (option_to_list c.exits-first.result.0) (option_to_list c.exits-first.result.1) c.in_ok-mark_exit.ensures c.in_ok-mark_exit-2.ensures)
