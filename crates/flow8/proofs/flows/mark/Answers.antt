use Rattle.std.proofs.Common.{◌≡◌, length, false, None, slice_index_or, ap, sym, ◌∙◌, arith}
use Rattle.std.proofs.lemmas.List.{get_or_read_under}
use Rattle.flow8.proofs.FlowLemmas.{marks_given}
use Rattle.flow8.proofs.flows.mark.Goals as goal

pub returns : goal.returns
returns c =
    let is : c.index.result ≡ c.args.cell = c.index.ensures.value in
    let given : slice_index_or c.args.words.now c.args.cell None ≡ c.index-words-index.result =
    ap (λ n. slice_index_or c.args.words.now n None) (sym is)
    ∙ sym (get_or_read_under c.args.words.now c.index.result (length c.args.words.now) c.index-words-index.result None c.index-words-index.is (omega (arith, c.index.ensures.range, c.requires.words)) (omega arith)) in
    marks_given c.args.words.now c.args.reached.now c.args.waiting.now.items c.push.new.self.items c.args.cell c.index-2.result c.index-words-index.result c.index-2.ensures.value
    (omega (arith, c.index-2.ensures.value, c.index-2.ensures.range, c.requires.reached)) given c.if-is_none.ensures
    (ap (λ n. slice_index_or c.args.reached.now n false) (sym c.index-else-is_none.ensures.value) ∙ c.if-reached-index.false) c.in_ok-push.ensures.items
