use Rattle.std.proofs.Common.{◌≡◌, ◌+◌, ◌++◌, ◌∷◌, [], ◌∙◌, sym, ap, subst, arith, take, drop, get_or, take-append-drop, List, true, add-one}
use Rattle.std.proofs.Math.Seq.{take-suc, drop-cons}
use Rattle.script8.specs.declared.entries.Entry.{Entry}
use Rattle.system_session.specs.Refusals.{MayLack}
use Rattle.system_session.specs.Session.{state_of}
use Rattle.system_session.specs.State.{State}
use Rattle.system_session.specs.System.{Answer, Run, MayAnswer}
use Rattle.system_session.proofs.QuietLemmas.{quiet_same, quiet_first, quiet_second, later_trans}
use Rattle.system_session.proofs.EntryLemmas.{run_more, run_stopped, memory_is, no_memory, not_first}
use Rattle.system_session.proofs.sessions.Session.run.Goals as goal

pub returns-then-is_memory-clause-run : goal.returns-then-is_memory-clause-run
returns-then-is_memory-clause-run g c quiet =
    let same = c.step-answer.ensures.does.memory (memory_is _ (sym c.if-is_memory.ensures)) in
    let before = quiet_same c.args.self.now _ _ quiet same in
    let count = c.loop-entry.entry-index in
    let entries = c.args.entries.now in
    let parts : take count entries ++ get_or entries count c.entry-item.result ∷ drop (count + 1) entries ≡ entries = ap (λ l. take count entries ++ l) (ap (λ n. get_or entries count c.entry-item.result ∷ drop n entries) (add-one count) ∙ sym (drop-cons entries count c.entry-item.result c.loop-entry-test.true)) ∙ take-append-drop count entries in
    let following = quiet_second _ c.loop-entry.self _ quiet c.loop-entry.invariant.later c.step-answer.ensures.does.later (c.loop-entry.invariant.running before) in
    let step = subst (λ (r : Answer). MayAnswer (state_of c.loop-entry.self) (get_or entries count c.entry-item.result) r (state_of c.step-answer.new.self)) (memory_is _ (sym c.if-is_memory.ensures)) (subst (λ (e : Entry). MayAnswer (state_of c.loop-entry.self) e c.step-answer.result (state_of c.step-answer.new.self)) c.entry-item.is (c.step-answer.ensures.does.step following)) in
    let lack : MayLack (state_of c.loop-entry.self) (get_or entries count c.entry-item.result) = step.0 in
    subst (λ (s : State). Run (state_of c.args.self.now) entries c.loop-entry.replies.items true s) (sym same.state)
    (subst (λ (l : List Entry). Run (state_of c.args.self.now) l c.loop-entry.replies.items true (state_of c.loop-entry.self)) parts
    (run_stopped (take count entries) (drop (count + 1) entries) c.loop-entry.replies.items _ _ _ (c.loop-entry.invariant.told before) lack))

pub loop-entry-preserved : goal.loop-entry-preserved
loop-entry-preserved g c = record {
  told = λ quiet.
      let before = quiet_first _ c.loop-entry.self _ quiet c.loop-entry.invariant.later c.step-answer.ensures.does.later in
      let following = quiet_second _ c.loop-entry.self _ quiet c.loop-entry.invariant.later c.step-answer.ensures.does.later (c.loop-entry.invariant.running before) in
      let count = c.loop-entry.entry-index in
      let entries = c.args.entries.now in
      let more : take count entries ++ get_or entries count c.entry-item.result ∷ [] ≡ take (count + 1) entries = sym (take-suc entries count c.entry-item.result c.loop-entry-test.true) ∙ ap (λ n. take n entries) (sym (add-one count)) in
      rw (← more, c.push_reserved.ensures.items)
      (run_more (take count entries) c.loop-entry.replies.items _ _ _ _ c.step-answer.result (c.loop-entry.invariant.told before) (subst (λ (e : Entry). MayAnswer (state_of c.loop-entry.self) e c.step-answer.result (state_of c.step-answer.new.self)) c.entry-item.is (c.step-answer.ensures.does.step following)) (no_memory _ (sym c.if-is_memory.ensures)));
  later = later_trans _ _ _ c.loop-entry.invariant.later c.step-answer.ensures.does.later;
  running = λ quiet.
      let before = quiet_first _ c.loop-entry.self _ quiet c.loop-entry.invariant.later c.step-answer.ensures.does.later in
      c.step-answer.ensures.does.running (quiet_second _ c.loop-entry.self _ quiet c.loop-entry.invariant.later c.step-answer.ensures.does.later (c.loop-entry.invariant.running before));
  count = omega (arith, c.push_reserved.ensures.len, c.loop-entry.invariant.count);
  room = omega (arith, c.loop-entry.invariant.room, c.push_reserved.ensures.capacity);
  first = λ none. absurd (not_first _ none);
}
