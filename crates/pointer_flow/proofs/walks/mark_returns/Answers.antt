use Rattle.std.proofs.Common.{◌≡◌, ◌∷◌, [], ◌++◌, ap, ◌∙◌, subst, arith}
use Rattle.pointer_flow.specs.Next.{return_states, state_after_jump}
use Rattle.pointer_flow.specs.Programs.{cells_from}
use Rattle.pointer_flow.specs.Steps.{MarksStates, is_open_in}
use Rattle.pointer_flow.proofs.MarkLemmas.{marks_more, marks_none, returns_next}
use Rattle.pointer_flow.proofs.walks.mark_returns.Goals as goal

pub loop-more-init : goal.loop-more-init
loop-more-init c =
    marks_none (is_open_in c.args.rules.now.facts.now.words.now c.args.rules.now.facts.now.data_flags.now) c.args.reached.now.bits.items
    c.args.waiting.now.items

pub loop-more-preserved : goal.loop-more-preserved
loop-more-preserved c =
    let is_open = is_open_in c.args.rules.now.facts.now.words.now c.args.rules.now.facts.now.data_flags.now in
    let s = c.args.state.now in
    let before = return_states s.data_field (cells_from s.cell c.args.first_return c.loop-more.more) in
    let states = ap (λ x. before ++ x ∷ [])
    (c.state_after_jump.ensures.value ∙ ap (state_after_jump s.data_field) c.cell_after-cell.ensures.value)
    ∙ returns_next s.data_field s.cell c.args.first_return c.loop-more.more in
    subst (λ l. MarksStates is_open c.args.reached.now.bits.items c.mark.new.reached.bits.items c.args.waiting.now.items c.mark.new.waiting.items l) states
    (marks_more is_open c.args.reached.now.bits.items c.loop-more.reached.bits.items c.mark.new.reached.bits.items c.args.waiting.now.items
    c.loop-more.waiting.items c.mark.new.waiting.items before (c.state_after_jump.result ∷ []) c.loop-more.invariant c.in_ok-mark.ensures)

pub returns : goal.returns
returns c =
    let is_open = is_open_in c.args.rules.now.facts.now.words.now c.args.rules.now.facts.now.data_flags.now in
    let s = c.args.state.now in
    let end : c.loop-more.more ≡ c.args.returns = omega (arith, c.loop-more-test.false, c.loop-more.auto.more-end) in
    subst (λ n. MarksStates is_open c.args.reached.now.bits.items c.loop-more.reached.bits.items c.args.waiting.now.items c.loop-more.waiting.items
    (return_states s.data_field (cells_from s.cell c.args.first_return n))) end c.loop-more.invariant
