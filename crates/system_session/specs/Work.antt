-- What jobs, and the entries that begin them, give them turns or change the files beside them, do to the state of the machine.
use Rattle.std.specs.Prelude.{◌≡◌, ℕ, List, Result, Ok, Err}
use Rattle.volume_jobs.specs.State as jobs
use Rattle.volume_jobs.specs.declared.faults.JobFault.{JobFault}
use Rattle.volume_jobs.specs.declared.faults.JobFault.TheVariants as job
use Rattle.volume_jobs.specs.declared.turned.Turned.{Turned}
use Rattle.volume_jobs.specs.declared.turned.Turned.TheVariants as turned
use Rattle.refusals.specs.declared.faults.SessionFault.{SessionFault}
use Rattle.refusals.specs.declared.faults.SessionFault.TheVariants as fault
use Rattle.script8.specs.declared.replies.LineReply.{LineReply}
use Rattle.script8.specs.declared.replies.LineReply.TheVariants as line
use Rattle.script8.specs.declared.replies.Reply.{Reply}
use Rattle.script8.specs.declared.replies.Reply.TheVariants.{Line}
use Rattle.system_session.specs.State.{Console, State}

-- what jobs do their work on: the files, core and the jobs
abbrev pub job_state : State → jobs.State
job_state s = record {
  files = s.files;
  capacity = s.capacity;
  limit = s.limit;
  info = s.info;
  tight = s.tight;
  core = s.console.machine.core;
  jobs = s.jobs;
}

-- the console where core has other words: its registers, breaks and printed characters stay
abbrev pub with_core : Console → List ℕ → Console
with_core console core = record console { machine = record console.machine { core = core } }

-- the state where work has been done
abbrev pub with_work : State → jobs.State → State
with_work s after = record {
  files = after.files;
  capacity = after.capacity;
  limit = after.limit;
  info = after.info;
  tight = after.tight;
  jobs = after.jobs;
  console = with_core s.console after.core;
}

-- this was done to the files, core and the jobs, and to nothing else
abbrev pub DoesWork : (jobs.State → jobs.State → Type 0) → State → State → Type 0
DoesWork does old new = (after : jobs.State) × does (job_state old) after × (new ≡ with_work old after)

-- the reply to a turn
abbrev pub turn_reply : ℕ → Turned → LineReply
turn_reply number turned.Working = line.Working number
turn_reply number (turned.Assembled name blocks) = line.Assembled number name blocks
turn_reply number (turned.Loaded name) = line.Loaded number name
turn_reply number turned.Squeezed = line.Squeezed number

-- a job's fault among those of a session
abbrev pub fault_of_job : JobFault → SessionFault
fault_of_job job.NoJob = fault.NoJob
fault_of_job job.TooManyJobs = fault.TooManyJobs
fault_of_job (job.File why) = fault.File why
fault_of_job (job.Asm why) = fault.Asm why
fault_of_job (job.Tape why) = fault.Tape why
fault_of_job job.Memory = fault.Memory
