use Rattle.std.proofs.Common.{◌≡◌, ◌<◌, false, sym, subst, Some}
use Rattle.volume_jobs.specs.Jobs.{turns_left}
use Rattle.script8.specs.declared.entries.Entry.TheVariants as entry
use Rattle.script8.specs.declared.entries.JobEntry.TheVariants as order
use Rattle.system_session.specs.Session.{SessionView, state_of, NoCallFailed, IsLater}
use Rattle.system_session.specs.ShownAnswers.{ShowsOne}
use Rattle.system_session.specs.System.{MayAnswer}
use Rattle.system_session.proofs.EntryLemmas.{memory_is, no_memory, not_err, on_ok}
use Rattle.system_session.proofs.ToldLemmas.{tells_none, turn_told, turn_working}
use Rattle.system_session.proofs.sessions.Session.run_turn.Goals as goal

pub returns-then-is_memory-clause-told : goal.returns-then-is_memory-clause-told
returns-then-is_memory-clause-told g c first quiet = ((c.turn-answer.ensures.does.memory (memory_is _ (sym c.if-is_memory.ensures))).state, tells_none _)

pub returns-then-is_memory-clause-later : goal.returns-then-is_memory-clause-later
returns-then-is_memory-clause-later g c = c.turn-answer.ensures.does.later

pub returns-then-is_memory-clause-running : goal.returns-then-is_memory-clause-running
returns-then-is_memory-clause-running g c = c.turn-answer.ensures.does.running

pub returns-then-is_working-clause-told : goal.returns-then-is_working-clause-told
returns-then-is_working-clause-told g c first quiet =
    turn_working c.args.number c.turn-answer.result _ _ _ (c.turn-answer.ensures.does.step quiet) (no_memory _ (sym c.if-is_memory.ensures)) (sym c.if-is_working.ensures)

pub returns-then-is_working-clause-fewer : goal.returns-then-is_working-clause-fewer
returns-then-is_working-clause-fewer g c = c.turn-answer.ensures.fewer (not_err _ (sym c.if-is_memory.ensures)) c.requires

pub returns-then-is_working-clause-later : goal.returns-then-is_working-clause-later
returns-then-is_working-clause-later g c = c.turn-answer.ensures.does.later

pub returns-then-is_working-clause-running : goal.returns-then-is_working-clause-running
returns-then-is_working-clause-running g c = c.turn-answer.ensures.does.running

pub returns-clause-told : goal.returns-clause-told
returns-clause-told g c first quiet =
    let told = c.tell.ensures.told first in
    let before = subst (λ (s : SessionView). NoCallFailed c.args.self.now s) c.tell.ensures.same quiet in
    turn_told c.args.number c.turn-answer.result _ _ _ _ told.0 c.tell.result
    (subst (λ (s : SessionView). MayAnswer (state_of c.args.self.now) (entry.Jobs (order.Turn c.args.number)) c.turn-answer.result (state_of s)) (sym c.tell.ensures.same) (c.turn-answer.ensures.does.step before))
    (no_memory _ (sym c.if-is_memory.ensures)) (sym c.if-is_working.ensures)
    (subst (λ (s : SessionView). ShowsOne (Some (entry.Jobs (order.Turn c.args.number))) c.turn-answer.result (state_of s) told.0) (sym c.tell.ensures.same) told.1)
    told.2

pub returns-clause-fewer : goal.returns-clause-fewer
returns-clause-fewer g c =
    on_ok c.tell.result (subst (λ (s : SessionView). turns_left s.jobs < turns_left c.args.self.now.jobs) (sym c.tell.ensures.same)
    (c.turn-answer.ensures.fewer (not_err _ (sym c.if-is_memory.ensures)) c.requires))

pub returns-clause-later : goal.returns-clause-later
returns-clause-later g c = subst (λ (s : SessionView). IsLater c.args.self.now s) (sym c.tell.ensures.same) c.turn-answer.ensures.does.later

pub returns-clause-running : goal.returns-clause-running
returns-clause-running g c quiet =
    subst (λ (s : SessionView). s.volume.stopped ≡ false) (sym c.tell.ensures.same)
    (c.turn-answer.ensures.does.running (subst (λ (s : SessionView). NoCallFailed c.args.self.now s) c.tell.ensures.same quiet))
