use Rattle.std.proofs.Common.{◌<◌, Err, refl, sym, subst, ap, ◌∙◌}
use Rattle.volume_jobs.specs.Calls as calls
use Rattle.volume_jobs.specs.Calls.{NumberTellsRoom, TakesTurn}
use Rattle.volume_jobs.specs.Jobs.{job_of, lowest_job, turns_left}
use Rattle.volume_jobs.specs.Settled.{plain_jobs}
use Rattle.script8.specs.declared.entries.Entry.TheVariants as entry
use Rattle.script8.specs.declared.entries.JobEntry.TheVariants as order
use Rattle.system_session.specs.Session.{SessionView}
use Rattle.system_session.specs.SessionSteps.{DoesEntry}
use Rattle.system_session.specs.State.{Console}
use Rattle.system_session.proofs.LeavesLemmas.{turn_leaves}
use Rattle.system_session.proofs.RoomLemmas.{turn_room}
use Rattle.system_session.proofs.JobLemmas.{turn_done, turn_refused, turn_fewer, never_number, not_lacking}
use Rattle.system_session.proofs.sessions.Session.turn.Goals.{in-Ok, in-Err}
use Rattle.system_session.proofs.sessions.Session.turn.Goals as goal

pub returns-clause-does : goal.returns-clause-does
returns-clause-does g c =
    subst (λ (k : Console). DoesEntry (entry.Jobs (order.Turn c.args.number)) c.args.self.now c.match-turn.result (record { volume = c.turn.new.files; jobs = plain_jobs c.turn.new.jobs; console = k })) (sym c.turn.ensures.others) (elim c.match-turn.branch [
      | in-Ok w ↦ rw (w.result-is, w.turn_reply.ensures, ← c.self.view_is)
          (turn_done _ _ _ c.self.inside.jobs c.turn.new.jobs _ w.in-Ok.turned refl (subst (λ r. TakesTurn c.self.inside.files c.self.inside.console.machine.core c.self.inside.jobs c.args.number r c.turn.new.files c.turn.new.self.machine.core c.turn.new.jobs) w.in-Ok.is c.turn.ensures.turn))
      | in-Err w ↦ rw (w.result-is, w.fault_of_job.ensures, ← c.self.view_is)
          (turn_refused _ _ _ c.self.inside.jobs c.turn.new.jobs _ w.in-Err.fault refl (subst (λ r. TakesTurn c.self.inside.files c.self.inside.console.machine.core c.self.inside.jobs c.args.number r c.turn.new.files c.turn.new.self.machine.core c.turn.new.jobs) w.in-Err.is c.turn.ensures.turn))
    ])

pub returns-clause-fewer : goal.returns-clause-fewer
returns-clause-fewer g c other low =
    subst (λ (s : SessionView). turns_left (plain_jobs c.turn.new.jobs) < turns_left s.jobs) c.self.view_is (turn_fewer c.job_numbers.ensures.lowest c.self.inside.files c.turn.new.files c.self.inside.console.machine.core c.turn.new.self.machine.core c.self.inside.jobs c.turn.new.jobs c.args.number c.turn.result
    (elim c.match-turn.branch [
      | in-Ok w ↦ (λ is. never_number _ _ (sym w.in-Ok.is ∙ is))
      | in-Err w ↦ (λ is. not_lacking c.match-turn.result w.in-Err.fault other (w.result-is ∙ ap Err w.fault_of_job.ensures) (sym w.in-Err.is ∙ is))
    ]) (ap (λ (s : SessionView). lowest_job s.jobs) c.self.view_is ∙ low) c.turn.ensures.turn)

pub returns-clause-leaves : goal.returns-clause-leaves
returns-clause-leaves g c = rw (← c.self.view_is) (turn_leaves c.job_calls.ensures.places c.job_calls.ensures.reads c.args.number _ _ c.self.inside.jobs refl c.turn.ensures.turn.calls)

pub returns-clause-room : goal.returns-clause-room
returns-clause-room g c =
    rw (← c.self.view_is) (elim c.match-turn.branch [
      | in-Ok w ↦ rw (w.result-is) tt
      | in-Err w ↦ rw (w.result-is, w.fault_of_job.ensures)
          (turn_room (NumberTellsRoom (job_of c.args.number (plain_jobs c.self.inside.jobs)) c.self.inside.files) w.in-Err.fault
          (subst (λ r. calls.IfFile (NumberTellsRoom (job_of c.args.number (plain_jobs c.self.inside.jobs)) c.self.inside.files) r) w.in-Err.is c.turn.ensures.turn.room))
    ])
