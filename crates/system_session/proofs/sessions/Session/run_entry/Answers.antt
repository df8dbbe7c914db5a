use Rattle.std.proofs.Common.{◌≡◌, false, sym, subst, Some}
use Rattle.system_session.specs.Session.{state_of, NoCallFailed, IsLater, SessionView}
use Rattle.system_session.specs.ShownAnswers.{ShowsOne}
use Rattle.system_session.specs.System.{MayAnswer}
use Rattle.system_session.proofs.ToldLemmas.{entry_told, entry_undone}
use Rattle.system_session.proofs.EntryLemmas.{memory_is, no_memory}
use Rattle.system_session.proofs.sessions.Session.run_entry.Goals as goal

pub returns-then-is_memory-clause-told : goal.returns-then-is_memory-clause-told
returns-then-is_memory-clause-told g c first quiet = entry_undone c.args.entry.now _ _ _ (c.step-answer.ensures.does.memory (memory_is _ (sym c.if-is_memory.ensures))).state

pub returns-clause-told : goal.returns-clause-told
returns-clause-told g c first quiet =
    let told = c.tell.ensures.told first in
    let before = subst (λ (s : SessionView). NoCallFailed c.args.self.now s) c.tell.ensures.same quiet in
    entry_told _ c.step-answer.result _ _ _ _ told.0 c.tell.result
    (subst (λ (s : SessionView). MayAnswer (state_of c.args.self.now) c.args.entry.now c.step-answer.result (state_of s)) (sym c.tell.ensures.same) (c.step-answer.ensures.does.step before))
    (no_memory _ (sym c.if-is_memory.ensures))
    (subst (λ (s : SessionView). ShowsOne (Some c.args.entry.now) c.step-answer.result (state_of s) told.0) (sym c.tell.ensures.same) told.1)
    told.2

pub returns-then-is_memory-clause-later : goal.returns-then-is_memory-clause-later
returns-then-is_memory-clause-later g c = c.step-answer.ensures.does.later

pub returns-then-is_memory-clause-running : goal.returns-then-is_memory-clause-running
returns-then-is_memory-clause-running g c = c.step-answer.ensures.does.running

pub returns-clause-later : goal.returns-clause-later
returns-clause-later g c = subst (λ (s : SessionView). IsLater c.args.self.now s) (sym c.tell.ensures.same) c.step-answer.ensures.does.later

pub returns-clause-running : goal.returns-clause-running
returns-clause-running g c quiet =
    subst (λ (s : SessionView). s.volume.stopped ≡ false) (sym c.tell.ensures.same)
    (c.step-answer.ensures.does.running (subst (λ (s : SessionView). NoCallFailed c.args.self.now s) c.tell.ensures.same quiet))
