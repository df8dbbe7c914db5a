use Rattle.std.proofs.Common.{[], ◌++◌, ℕ, Option, ap, sym, ◌∙◌, subst}
use Rattle.pointer_flow.specs.Next.{return_states, with_state}
use Rattle.pointer_flow.specs.Programs.{cells_from}
use Rattle.pointer_flow.specs.Steps.{MarksStates, is_open_in, state_list, states_of_word}
use Rattle.pointer_flow.proofs.MarkLemmas.{marks_more, with_before}
use Rattle.pointer_flow.proofs.walks.mark_after.Goals as goal

pub returns : goal.returns
returns c =
    let is_open = is_open_in c.args.rules.now.facts.now.words.now c.args.rules.now.facts.now.data_flags.now in
    let s = c.args.state.now in
    let next = c.next_states-next.result in
    let returns = return_states s.data_field (cells_from s.cell next.first_return next.returns) in
    let old = c.args.reached.now.bits.items in
    let waiting = c.args.waiting.now.items in
    let marks = marks_more is_open old c.mark_if.new.reached.bits.items c.mark_returns.new.reached.bits.items waiting c.mark_if.new.waiting.items
    c.mark_returns.new.waiting.items (with_state next.first []) (with_state next.second [] ++ returns) c.in_ok-mark_if.ensures
    (marks_more is_open c.mark_if.new.reached.bits.items c.mark_if-2.new.reached.bits.items c.mark_returns.new.reached.bits.items c.mark_if.new.waiting.items
    c.mark_if-2.new.waiting.items c.mark_returns.new.waiting.items (with_state next.second []) returns c.in_ok-mark_if-2.ensures c.in_ok-mark_returns.ensures) in
    let all = ap (λ l. with_state next.first [] ++ l) (with_before next.second returns) ∙ with_before next.first (with_state next.second returns) in
    record {
      states = state_list s next;
      marks = subst (λ l. MarksStates is_open old c.mark_returns.new.reached.bits.items waiting c.mark_returns.new.waiting.items l) all marks;
      are = λ p facts.
          c.next_states-next.ensures.states p facts
          ∙ ap (states_of_word p c.args.rules.now.pointers.now c.args.rules.now.no_skip_cells.now s)
          (sym (ap (λ (f : ℕ → Option ℕ). f s.cell) facts.words_are ∙ sym c.in-Some.ensures));
    }
