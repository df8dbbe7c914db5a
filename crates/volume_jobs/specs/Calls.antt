-- What jobs do to a volume and to the table of jobs, whatever fails.
use Rattle.std.specs.Prelude.{◌≡◌, ◌≤◌, ◌<◌, ◌⊎◌, ℕ, zero, suc, get_or, Bool, false, true, Option, Some, None, Result, Ok, Err, List}
use Rattle.os8_dir.specs.Files.{files_of}
use Rattle.os8_files.specs.Calls.{Squeezes}
use Rattle.os8_files.specs.Failed.{Survives}
use Rattle.os8_files.specs.Laws.{KeepsPlaces, KeepsOtherPlaces, ReadsOne, ReadsLowest}
use Rattle.os8_files.specs.Mounted.{MountState}
use Rattle.os8_files.specs.Puts.{PutsFile, TellsRoom}
use Rattle.pal_blocks.specs.Sources.{assembled_words}
use Rattle.os8_dir.specs.declared.file_faults.FileFault.{FileFault}
use Rattle.os8_dir.specs.declared.file_faults.FileFault.TheVariants as file
use Rattle.os8_files.specs.declared.tokens.Squeezed as tokens
use Rattle.os8_files.specs.declared.tokens.Squeezed.TheVariants as token
use Rattle.volume_jobs.specs.declared.faults.JobFault.{JobFault}
use Rattle.volume_jobs.specs.declared.faults.JobFault.TheVariants as fault
use Rattle.volume_jobs.specs.declared.kinds.Job.{Job}
use Rattle.volume_jobs.specs.declared.kinds.Work.{Work}
use Rattle.volume_jobs.specs.declared.kinds.Work.TheVariants as work
use Rattle.volume_jobs.specs.declared.turned.Turned.TheVariants.{Working, Squeezed}
use Rattle.volume_jobs.specs.Jobs as plain
use Rattle.volume_jobs.specs.Settled.{IsSettled, state_over, plain_jobs}
use Rattle.volume_jobs.specs.Starts.{StartResult, AssembleStarts, LoadStarts, SqueezeStarts}
use Rattle.volume_jobs.specs.State.{words_in}
use Rattle.volume_jobs.specs.Turns.{Answer, Turns}

-- no block call failed between, and no write before
pub record NoCallFailed (old new : MountState) : Type 0 where
  pub running : old.stopped ≡ false
  pub reads : new.failed_reads ≡ old.failed_reads
  pub writes : new.failed_writes ≡ old.failed_writes

-- a write failed over a volume of the same files, of which it left what it leaves of any
abbrev pub Outlives : List (List ℕ) → List (List ℕ) → Type 0
Outlives old new = (mid : List (List ℕ)) × (files_of mid ≡ files_of old) × Survives mid new

-- a read failed, and no block was written
pub record FailsRead (old new : MountState) : Type 0 where
  pub running : old.stopped ≡ false
  pub reads : old.failed_reads < new.failed_reads
  pub writes : new.failed_writes ≡ old.failed_writes
  pub blocks : new.blocks ≡ old.blocks
  pub still : new.stopped ≡ false

-- a write failed, and from now on none is made
pub record WriteFailed (old new : MountState) : Type 0 where
  pub running : old.stopped ≡ false
  pub writes : old.failed_writes < new.failed_writes
  pub stopped : new.stopped ≡ true

-- a write had failed before, and no block call was made
pub record StaysStopped (old new : MountState) : Type 0 where
  pub before : old.stopped ≡ true
  pub stopped : new.stopped ≡ true
  pub reads : new.failed_reads ≡ old.failed_reads
  pub writes : new.failed_writes ≡ old.failed_writes
  pub blocks : new.blocks ≡ old.blocks

-- What an answer says of the block calls. `Device` comes just where one failed, and `Stopped` just where a write had failed before;
-- after any other answer none failed.
abbrev pub TellsFailures : MountState → Answer → MountState → Type 0
TellsFailures old (Err (fault.File file.Device)) new = FailsRead old new ⊎ WriteFailed old new
TellsFailures old (Err (fault.File file.Stopped)) new = StaysStopped old new
TellsFailures old answer new = NoCallFailed old new

-- What a turn leaves of a volume. No failure is forgotten.
pub record TurnsOver (old : MountState) (answer : Answer) (new : MountState) : Type 0 where
  pub tells : TellsFailures old answer new
  pub reads : old.failed_reads ≤ new.failed_reads
  pub writes : old.failed_writes ≤ new.failed_writes
  pub running : NoCallFailed old new → new.stopped ≡ false
  pub files : old.failed_writes < new.failed_writes → Outlives old.blocks new.blocks

-- what the turn of a number leaves of it: where it has no job nothing is done, whatever failed before
abbrev pub NumberTurnsOver : Option plain.Job → MountState → Answer → MountState → Type 0
NumberTurnsOver None old answer new = (answer ≡ Err fault.NoJob) × (new ≡ old)
NumberTurnsOver (Some it) old answer new = TurnsOver old answer new

-- what a turn leaves of the jobs where it is refused: memory that runs out changes nothing, and all else ends the job
abbrev pub LeavesJobs : ℕ → Answer → List (Option plain.Job) → List (Option plain.Job) → Type 0
LeavesJobs number (Ok turned) old new = Unit {0}
LeavesJobs number (Err fault.Memory) old new = new ≡ old
LeavesJobs number (Err why) old new = new ≡ plain.with_job number None old

-- no block was written, and one at most was read
abbrev pub ReadsAtMost : MountState → MountState → Type 0
ReadsAtMost old new = (new.blocks ≡ old.blocks) × ReadsOne old new

-- words were put under a name, or refused there, by one call, and perhaps holds were released
abbrev pub PutsThere : ℕ → MountState → MountState → Type 0
PutsThere name old new = (words : List ℕ) × (call : Result (Unit {0}) FileFault) × (mid : MountState) × PutsFile old name words call mid × (new ≡ record mid { holds = new.holds })

-- The calls that a turn of a job makes. One that loads reads one block at most and writes none; so does one that assembles, but
-- for its last, which reads none and puts its target. One that squeezes makes one call.
abbrev pub WorkCalls : Work → ℕ → MountState → MountState → Type 0
WorkCalls (work.Assembling it) left old new = ReadsAtMost old new ⊎ ((left ≡ 1) × PutsThere it.to old new)
WorkCalls (work.Loading it) left old new = ReadsAtMost old new
WorkCalls (work.Squeezing clean) left old new = (call : Result tokens.Squeezed FileFault) × Squeezes old call new

-- What the answer of a job that squeezes, with so many turns left, says of its one call. Working says that a file was moved and a
-- turn is left. Squeezed says that one was moved at the last turn, or that none was to be moved. A refusal is that of the call.
abbrev pub TellsSqueeze : ℕ → MountState → Answer → MountState → Type 0
TellsSqueeze left old (Ok Working) new = (2 ≤ left) × (name : ℕ) × Squeezes old (Ok (token.Moved name)) new
TellsSqueeze left old (Ok Squeezed) new = ((left ≡ 1) × (name : ℕ) × Squeezes old (Ok (token.Moved name)) new) ⊎ Squeezes old (Ok token.Nothing) new
TellsSqueeze left old (Err (fault.File why)) new = Squeezes old (Err why) new
TellsSqueeze left old (Err fault.Memory) new = Squeezes old (Err file.Memory) new
TellsSqueeze left old answer new = ⊥

-- an answer that is a fault of files has this
abbrev pub IfFile : (FileFault → Type 0) → Answer → Type 0
IfFile has (Ok turned) = Unit {0}
IfFile has (Err (fault.File why)) = has why
IfFile has (Err why) = Unit {0}

-- What a refusal of a job's target says of the store's blocks, of which the map of files says nothing.
abbrev pub WorkTellsRoom : plain.Work → MountState → FileFault → Type 0
WorkTellsRoom (plain.Assembling to from) old why = TellsRoom old.blocks to (assembled_words (words_in (files_of old.blocks) from)) why
WorkTellsRoom (plain.Loading from) old why = Unit {0}
WorkTellsRoom (plain.Squeezing clean) old why = Unit {0}

abbrev pub NumberTellsRoom : Option plain.Job → MountState → FileFault → Type 0
NumberTellsRoom None old why = Unit {0}
NumberTellsRoom (Some it) old why = WorkTellsRoom it.work old why

-- How many blocks of the store a turn of a job reads: one at most, but that one that squeezes reads each block of the file that
-- it moves once.
abbrev pub ReadsFew : plain.Work → MountState → MountState → Type 0
ReadsFew (plain.Assembling to from) old new = ReadsOne old new
ReadsFew (plain.Loading from) old new = ReadsOne old new
ReadsFew (plain.Squeezing clean) old new = (new.reads ≡ old.reads) ⊎ ReadsLowest old new

-- Whose places a turn of a job changes: that of the file that it puts, and, where it squeezes, of one file at most.
abbrev pub MovesFew : plain.Work → MountState → MountState → Type 0
MovesFew (plain.Assembling to from) old new = KeepsOtherPlaces to old new
MovesFew (plain.Loading from) old new = KeepsPlaces old new
MovesFew (plain.Squeezing clean) old new = (name : ℕ) × KeepsOtherPlaces name old new

-- ## The table

-- the job of a number, with what it keeps
abbrev pub job_at : ℕ → List (Option Job) → Option Job
job_at zero jobs = None
job_at (suc place) jobs = get_or jobs place None

-- the calls that a turn of a job makes; none where there is no job
abbrev pub CallsOf : Option Job → MountState → MountState → Type 0
CallsOf None old new = new ≡ old
CallsOf (Some it) old new = WorkCalls it.work it.turns old new

-- The result of a turn of the job of a number, over a volume with core and the jobs of a session.
pub record TakesTurn (old : MountState) (core : List ℕ) (jobs : List (Option Job)) (number : ℕ) (answer : Answer) (new : MountState) (core' : List ℕ) (jobs' : List (Option Job)) : Type 0 where
  pub settled : IsSettled new jobs'
  pub step : NoCallFailed old new → Turns (state_over old core (plain_jobs jobs)) number answer (state_over new core' (plain_jobs jobs'))
  pub volume : NumberTurnsOver (plain.job_of number (plain_jobs jobs)) old answer new
  pub same_core : (why : JobFault) → answer ≡ Err why → core' ≡ core
  pub left : LeavesJobs number answer (plain_jobs jobs) (plain_jobs jobs')
  pub fewer : (it : plain.Job) → (answer ≡ Err fault.Memory → ⊥) → plain.job_of number (plain_jobs jobs) ≡ Some it → plain.turns_left (plain_jobs jobs') < plain.turns_left (plain_jobs jobs)
  pub calls : CallsOf (job_at number jobs) old new
  pub squeezed : (clean : Bool) (left : ℕ) → plain.job_of number (plain_jobs jobs) ≡ Some (plain.squeezing clean left) → TellsSqueeze left old answer new
  pub room : IfFile (NumberTellsRoom (plain.job_of number (plain_jobs jobs)) old) answer

-- What a start of a job leaves: no block is read or written. Where a write has failed before, that is the first refusal.
pub record StartsOver (old : MountState) (jobs : List (Option Job)) (answer : StartResult) (new : MountState) (jobs' : List (Option Job)) : Type 0 where
  pub settled : IsSettled new jobs'
  pub others : new ≡ record old { holds = new.holds }
  pub stopped : old.stopped ≡ true → (answer ≡ Err (fault.File file.Stopped)) × (new ≡ old) × (jobs' ≡ jobs)

-- the result of beginning to load
pub record StartsLoading (old : MountState) (jobs : List (Option Job)) (name : ℕ) (answer : StartResult) (new : MountState) (jobs' : List (Option Job)) : Type 0 where
  pub over : StartsOver old jobs answer new jobs'
  pub step : old.stopped ≡ false → (core : List ℕ) → LoadStarts (state_over old core (plain_jobs jobs)) name answer (state_over new core (plain_jobs jobs'))

-- the result of beginning to assemble
pub record StartsAssembling (old : MountState) (jobs : List (Option Job)) (target : ℕ) (from : List ℕ) (answer : StartResult) (new : MountState) (jobs' : List (Option Job)) : Type 0 where
  pub over : StartsOver old jobs answer new jobs'
  pub step : old.stopped ≡ false → (core : List ℕ) → AssembleStarts (state_over old core (plain_jobs jobs)) target from answer (state_over new core (plain_jobs jobs'))

-- the result of beginning to squeeze
pub record StartsSqueezing (old : MountState) (jobs : List (Option Job)) (answer : StartResult) (new : MountState) (jobs' : List (Option Job)) : Type 0 where
  pub over : StartsOver old jobs answer new jobs'
  pub step : old.stopped ≡ false → (core : List ℕ) → SqueezeStarts (state_over old core (plain_jobs jobs)) answer (state_over new core (plain_jobs jobs'))
