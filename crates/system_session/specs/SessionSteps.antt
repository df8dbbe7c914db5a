-- The result of doing an entry, for private clauses.
use Rattle.script8.specs.declared.entries.Entry.{Entry}
use Rattle.system_session.specs.Session.{SessionView, state_of, NoCallFailed, IsLater, IsSame, TellsBlockCalls, IsReply, IsSteadied}
use Rattle.system_session.specs.Interleaving.{EntryReads, EntryPlaces}
use Rattle.std.specs.Prelude.{◌≡◌, ◌<◌, true, false, OnOk, Ok, Err, Bool, Result, ℕ}
use Rattle.volume_jobs.specs.Calls.{Outlives}
use Rattle.volume_jobs.specs.declared.faults.JobFault.{JobFault}
use Rattle.refusals.specs.declared.faults.SessionFault.{SessionFault}
use Rattle.refusals.specs.declared.faults.SessionFault.TheVariants.{Memory}
use Rattle.script8.specs.declared.replies.LineReply.TheVariants as line
use Rattle.script8.specs.declared.replies.Reply.{Reply}
use Rattle.script8.specs.declared.replies.Reply.TheVariants.{Line}
use Rattle.system_session.specs.Work.{fault_of_job}
use Rattle.system_session.specs.Failing.{MayAnswerStopped}
use Rattle.system_session.specs.System.{Answer, MayAnswer}

-- ## Places

-- what an entry leaves alone
pub record LeavesAlone (entry : Entry) (old new : SessionView) : Type 0 where
  pub reads : EntryReads entry old new
  pub places : EntryPlaces entry old new

-- ## Session

-- The result of doing an entry: a step of the system machine where no block call fails, or where there is a reply, and nothing
-- for want of memory. It is also what is refused where one fails, or a write has failed before.
pub record DoesEntry (entry : Entry) (old : SessionView) (answer : Answer) (new : SessionView) : Type 0 where
  pub step : NoCallFailed old new → MayAnswer (state_of old) entry answer (state_of new)
  pub later : IsLater old new
  pub files : old.volume.stopped ≡ false → old.volume.failed_writes < new.volume.failed_writes
      → Outlives old.volume.blocks new.volume.blocks
  pub running : NoCallFailed old new → new.volume.stopped ≡ false
  pub memory : answer ≡ Err Memory → IsSame old new
  pub reply : IsReply answer
  pub tells : old.volume.stopped ≡ false → TellsBlockCalls entry old answer new
  pub stopped : old.volume.stopped ≡ true → MayAnswerStopped (state_of old) entry answer (state_of new)
  pub done : OnOk answer (MayAnswer (state_of old) entry answer (state_of new) × IsSteadied entry old new)

-- ## Jobs

-- the reply to a job that was begun
abbrev pub job_reply : Result ℕ JobFault → Result Reply SessionFault
job_reply (Ok number) = Ok (Line (line.Job number))
job_reply (Err why) = Err (fault_of_job why)

-- ## System

-- an answer is want of memory
abbrev pub is_memory : Answer → Bool
is_memory (Err Memory) = true
is_memory answer = false
