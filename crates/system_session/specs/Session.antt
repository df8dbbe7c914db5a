-- What is seen of a session, and the state of the system machine in it.
use Rattle.std.specs.Prelude.{◌≡◌, ◌≤◌, ◌⊎◌, nat_eq, Option, List, Err}
use Rattle.os8_dir.specs.Files.{files_of, capacity_of, limit_of, above_of}
use Rattle.os8_files.specs.Calls.{info_of}
use Rattle.os8_files.specs.Mounted.{MountState}
use Rattle.os8_dir.specs.declared.file_faults.FileFault.TheVariants as file
use Rattle.volume_jobs.specs.Calls as calls
use Rattle.volume_jobs.specs.Calls.{Outlives, FailsRead, WriteFailed}
use Rattle.volume_jobs.specs.Jobs.{Job}
use Rattle.script8.specs.declared.entries.Entry.{Entry}
use Rattle.script8.specs.declared.entries.Entry.TheVariants as entry
use Rattle.refusals.specs.declared.faults.SessionFault.TheVariants.{File, Reader, Writer}
use Rattle.system_session.specs.Refusals.{after_refusal}
use Rattle.system_session.specs.State.{State, Console}
use Rattle.system_session.specs.System.{Answer}

pub record SessionView : Type 0 where
  pub volume : MountState
  -- the jobs by their numbers
  pub jobs : List (Option Job)
  pub console : Console

-- the state of the system machine: the files are those of the store's blocks
abbrev pub state_of : SessionView → State
state_of s = record {
  files = files_of s.volume.blocks;
  capacity = capacity_of s.volume.blocks;
  limit = limit_of s.volume.blocks;
  info = info_of s.volume.blocks;
  tight = nat_eq (above_of s.volume.blocks) 0;
  jobs = s.jobs;
  console = s.console;
}

-- no block call failed between, and no write before
abbrev pub NoCallFailed : SessionView → SessionView → Type 0
NoCallFailed old new = calls.NoCallFailed old.volume new.volume

-- failures are never forgotten
pub record IsLater (old new : SessionView) : Type 0 where
  pub reads : old.volume.failed_reads ≤ new.volume.failed_reads
  pub writes : old.volume.failed_writes ≤ new.volume.failed_writes

-- nothing that the system machine has is changed, and no block call failed
pub record IsSame (old new : SessionView) : Type 0 where
  pub state : state_of new ≡ state_of old
  pub stopped : new.volume.stopped ≡ old.volume.stopped
  pub reads : new.volume.failed_reads ≡ old.volume.failed_reads
  pub writes : new.volume.failed_writes ≡ old.volume.failed_writes

-- A block call failed in an entry: a read, and no block was written, or a write, after which all writing has stopped. A turn has
-- ended its job, and nothing else is changed but what the blocks hold after a failed write.
pub record HasFailed (entry : Entry) (old new : SessionView) : Type 0 where
  pub call : FailsRead old.volume new.volume ⊎ WriteFailed old.volume new.volume
  pub jobs : new.jobs ≡ (after_refusal (state_of old) entry).jobs
  pub console : new.console ≡ old.console

-- What an answer says of the block calls where no write has failed before: `Device` comes just where one failed.
abbrev pub TellsBlockCalls : Entry → SessionView → Answer → SessionView → Type 0
TellsBlockCalls entry old (Err (File file.Device)) new = HasFailed entry old new
TellsBlockCalls entry old answer new = NoCallFailed old new

-- an answer to an entry is neither the reader's nor the writer's fault
abbrev pub IsReply : Answer → Type 0
IsReply (Err Reader) = ⊥
IsReply (Err Writer) = ⊥
IsReply answer = Unit {0}

-- an entry of the console needs no block; of another that was replied to, no block call failed
abbrev pub IsSteadied : Entry → SessionView → SessionView → Type 0
IsSteadied (entry.Files it) old new = NoCallFailed old new
IsSteadied (entry.Jobs it) old new = NoCallFailed old new
IsSteadied (entry.Console it) old new = Unit {0}
