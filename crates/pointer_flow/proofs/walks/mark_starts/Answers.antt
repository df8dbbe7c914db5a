use Rattle.std.proofs.Common.{◌∷◌, [], ◌++◌, take, ap, sym, ◌∙◌, subst}
use Rattle.std.proofs.lemmas.List.{take_all, take_more}
use Rattle.pointer_flow.specs.Steps.{MarksStates, is_open_in, start_states}
use Rattle.pointer_flow.proofs.MarkLemmas.{marks_more, marks_none, starts_more}
use Rattle.pointer_flow.proofs.walks.mark_starts.Goals as goal

pub loop-start-init : goal.loop-start-init
loop-start-init c =
    marks_none (is_open_in c.args.rules.now.facts.now.words.now c.args.rules.now.facts.now.data_flags.now) c.args.reached.now.bits.items
    c.args.waiting.now.items

pub loop-start-preserved : goal.loop-start-preserved
loop-start-preserved c =
    let is_open = is_open_in c.args.rules.now.facts.now.words.now c.args.rules.now.facts.now.data_flags.now in
    let front = take c.loop-start.start-index c.args.starts.now in
    let all = take_more c.args.starts.now c.loop-start.start-index c.start-item.result c.loop-start-test.true
    ∙ ap (λ start. front ++ start ∷ []) (sym c.start-item.is) in
    let states = ap (λ s. start_states front ++ s ∷ []) c.start_state.ensures.value ∙ starts_more front c.start-item.result ∙ ap start_states (sym all) in
    subst (λ l. MarksStates is_open c.args.reached.now.bits.items c.mark.new.reached.bits.items c.args.waiting.now.items c.mark.new.waiting.items l) states
    (marks_more is_open c.args.reached.now.bits.items c.loop-start.reached.bits.items c.mark.new.reached.bits.items c.args.waiting.now.items
    c.loop-start.waiting.items c.mark.new.waiting.items (start_states front) (c.start_state.result ∷ []) c.loop-start.invariant c.in_ok-mark.ensures)

pub returns : goal.returns
returns c =
    let is_open = is_open_in c.args.rules.now.facts.now.words.now c.args.rules.now.facts.now.data_flags.now in
    subst (λ l. MarksStates is_open c.args.reached.now.bits.items c.loop-start.reached.bits.items c.args.waiting.now.items c.loop-start.waiting.items
    (start_states l)) (take_all c.loop-start.start-index c.args.starts.now c.loop-start-test.false) c.loop-start.invariant
