-- What the small steps of a turn do, for private clauses.
use Rattle.std.specs.Prelude.{◌≡◌, ◌≤◌, ◌<◌, ◌⊎◌, ℕ, ◌+◌, ◌-◌, false, true, Bool, Option, Some, None, Result, Ok, Err, List, [], ◌∷◌, ◌++◌, take, ◌*◌, length, slice_set}
use Rattle.word12.specs.declared.sizes.TheConstants.{BLOCK, MOST_BLOCKS}
use Rattle.std.specs.FinMap.{get}
use Rattle.os8_dir.specs.Files.{files_of, above_of, Files, FileData}
use Rattle.os8_files.specs.Holds.{with_hold, without_hold, times}
use Rattle.os8_files.specs.Laws.{KeepsHeld, ReadsOne}
use Rattle.os8_files.specs.Mounted.{MountState}
use Rattle.os8_dir.specs.declared.file_faults.FileFault.{FileFault}
use Rattle.volume_jobs.specs.declared.faults.JobFault.{JobFault}
use Rattle.volume_jobs.specs.declared.turned.Turned.TheVariants.{Working, Squeezed, Assembled, Loaded}
use Rattle.volume_jobs.specs.declared.loading.Loading.{Loading}
use Rattle.volume_jobs.specs.declared.kinds.Job.{Job}
use Rattle.volume_jobs.specs.declared.kinds.Work.{Work}
use Rattle.volume_jobs.specs.Faults.{fault_of_file}
use Rattle.volume_jobs.specs.Reading.{HasWords, IsLoading, HasTaken}
use Rattle.pal_blocks.specs.Blocks.{blocks_in, blocks_among, blocks_of_each, AreFiles, assembling_turns}
use Rattle.volume_jobs.specs.Schedule.{loading_turns, IsMetNone, IsFirstMet}
use Rattle.volume_jobs.specs.Settled.{LoadingFits, state_over, work_of, plain_job, StandsIn, FitsIn, with_disturbance}
use Rattle.volume_jobs.specs.Sources.{names_of, AreFirst, AssemblyFits, AssemblyStands}
use Rattle.volume_jobs.specs.State.{IsIn, words_in, AreIn, IsOneOut}
use Rattle.volume_jobs.specs.Turns.{Answer, LoadingTurn, WorkTurn}
use Rattle.volume_jobs.specs.Calls.{NoCallFailed, TurnsOver, LeavesJobs, WorkCalls, TellsSqueeze, IfFile, WorkTellsRoom}
use Rattle.char_pack.specs.Packing.{frames}
use Rattle.char_pack.specs.declared.packing.TheConstants.{BLOCK_FRAMES}
use Rattle.bin_tape.specs.Items.{Item}
use Rattle.bin_tape.specs.Tape.{IsTape}
use Rattle.bin_tape.specs.Fault.{IsFault}
use Rattle.bin_tape.specs.declared.faults.TapeFault.{TapeFault}
use Rattle.bin_tape.specs.declared.faults.TapeFault.TheVariants.{BadFrame, NoOrigin, CheckSum, NoTrailer, Memory}
use Rattle.volume_image.specs.Volume.{next_count}
use Rattle.os8_dir.specs.Entries.{contains}
use Rattle.volume_jobs.specs.Jobs.{names_of_jobs, held_by_work}
use Rattle.pal_blocks.specs.Progress.{IsAssembling}
use Rattle.pal_blocks.specs.Turns.{TakesBlock}
use Rattle.volume_jobs.specs.declared.assembly.Assembly.{Assembly}
use Rattle.os8_dir.specs.declared.file_faults.FileFault.TheVariants as file
use Rattle.os8_files.specs.declared.tokens.Squeezed.TheVariants as token
use Rattle.os8_files.specs.declared.tokens.Squeezed as tokens
use Rattle.volume_jobs.specs.declared.faults.JobFault.TheVariants as fault
use Rattle.volume_jobs.specs.declared.kinds.Work.TheVariants as work
use Rattle.volume_jobs.specs.Jobs as plain
use Rattle.core_load.specs.Loading as load
use Rattle.pal_faults.specs.declared.assembling.AsmFault.TheVariants as asm

-- ## Answers

-- a fault is want of memory
abbrev pub is_memory : JobFault → Bool
is_memory fault.NoJob = false
is_memory fault.TooManyJobs = false
is_memory (fault.File why) = false
is_memory (fault.Asm why) = false
is_memory (fault.Tape why) = false
is_memory fault.Memory = true

-- the file of a job that assembles has been put: other entries' squeezing jobs are clean no longer
abbrev pub is_assembled : Answer → Bool
is_assembled (Ok Working) = false
is_assembled (Ok (Assembled name blocks)) = true
is_assembled (Ok (Loaded name)) = false
is_assembled (Ok Squeezed) = false
is_assembled (Err why) = false

-- ## Loading

-- The result of taking the other frames of a block, after frames before it: all are taken, a fault is met, or memory runs out
-- where so many are taken.
abbrev pub TakesFrames : List ℕ → List ℕ → Result (Unit {0}) TapeFault → load.Loading → ℕ → Type 0
TakesFrames before block (Ok nothing) loader offset = HasTaken loader (before ++ frames block) × (offset ≡ BLOCK_FRAMES)
TakesFrames before block (Err Memory) loader offset = HasTaken loader (before ++ take offset (frames block)) × (offset < BLOCK_FRAMES)
TakesFrames before block (Err (BadFrame at)) loader offset = IsFault (before ++ frames block) (BadFrame at)
TakesFrames before block (Err NoOrigin) loader offset = IsFault (before ++ frames block) NoOrigin
TakesFrames before block (Err (CheckSum found computed)) loader offset = IsFault (before ++ frames block) (CheckSum found computed)
TakesFrames before block (Err NoTrailer) loader offset = ⊥

-- the result of the end of frames that are a tape, or may go on as one
abbrev pub EndsTape : List ℕ → Result (Unit {0}) JobFault → Type 0
EndsTape given (Ok nothing) = (items : List Item) × IsTape given items
EndsTape given (Err (fault.Tape why)) = (why ≡ NoTrailer) × IsFault given NoTrailer
EndsTape given (Err why) = ⊥

-- The result of a turn that reads a block.
abbrev pub ReadsBlock : List ℕ → Loading → ℕ → Result (Unit {0}) JobFault → Loading → Type 0
ReadsBlock words old left (Ok nothing) new = IsLoading words new (left - 1) × (new.hold ≡ old.hold) × IsMetNone words (old.blocks_read + 1)
ReadsBlock words old left (Err fault.Memory) new = IsLoading words new left × (new.hold ≡ old.hold)
ReadsBlock words old left (Err (fault.Tape why)) new = IsFirstMet words (old.blocks_read + 1) why × (new.hold ≡ old.hold)
ReadsBlock words old left (Err why) new = ⊥

-- one block was read, and nothing else of the volume is changed
abbrev pub HasReadOne : MountState → MountState → Type 0
HasReadOne old new = (old.stopped ≡ false) × (new ≡ record old { reads = next_count old.reads })

-- a read failed
abbrev pub HasMissedOne : MountState → MountState → Type 0
HasMissedOne old new = (old.stopped ≡ false) × (new ≡ record old { reads = next_count old.reads; failed_reads = old.failed_reads + 1 })

-- A reading turn of a job that loads a file of these words.
abbrev pub LoadsOn : List ℕ → MountState → Loading → ℕ → Result (Unit {0}) JobFault → MountState → Loading → Type 0
LoadsOn words old job left (Err (fault.File file.Device)) new job' = HasMissedOne old new
LoadsOn words old job left (Err (fault.File why)) new job' = ⊥
LoadsOn words old job left (Err fault.Memory) new job' = HasReadOne old new × ReadsBlock words job left (Err fault.Memory) job'
LoadsOn words old job left (Err (fault.Tape why)) new job' = HasReadOne old new × ReadsBlock words job left (Err (fault.Tape why)) job'
LoadsOn words old job left (Err why) new job' = ⊥
LoadsOn words old job left (Ok nothing) new job' = HasReadOne old new × ReadsBlock words job left (Ok nothing) job'

-- ## Holds at places

-- the holds without those of some places
abbrev pub without_holds : List (Option ℕ) → List ℕ → List ℕ
without_holds [] holds = holds
without_holds (None ∷ places) holds = without_holds places holds
without_holds (Some name ∷ places) holds = without_holds places (without_hold name holds)

-- what the places hold was taken of a volume, and nothing else of it is changed
pub record HasHeld (old : MountState) (places : List (Option ℕ)) (new : MountState) : Type 0 where
  pub taken : (name : ℕ) → times name new.holds ≡ times name (names_of places) + times name old.holds
  pub others : new ≡ record old { holds = new.holds }

-- The files of these names are there, and are held at the first places; their blocks are counted, and all of them.
pub record HoldsFirst (files : Files) (names : List ℕ) (places : List (Option ℕ)) (blocks : List ℕ) (total : ℕ) : Type 0 where
  pub names_are : names_of places ≡ names
  pub first : AreFirst places
  pub there : AreIn files names
  pub whole : AreFiles (words_in files names)
  pub each : blocks ≡ blocks_of_each (words_in files names)
  pub sum : total ≡ blocks_among (words_in files names)
  pub most : total ≤ MOST_BLOCKS * length names

-- a file is held at a place, which was empty, and its blocks are counted
pub record HoldsNext (files : Files) (name : ℕ) (old : List (Option ℕ)) (place : ℕ) (before : List ℕ) (count : ℕ) (new : List (Option ℕ)) (after : List ℕ) : Type 0 where
  pub file : FileData
  pub there : get files name ≡ Some file
  pub whole : BLOCK * blocks_in file.1 ≡ length file.1
  pub some : 0 < blocks_in file.1
  pub most : blocks_in file.1 ≤ MOST_BLOCKS
  pub counts : count ≡ blocks_in file.1
  pub places : new ≡ slice_set old place (Some name)
  pub blocks : after ≡ before ++ count ∷ []

abbrev pub TakesNext : Files → ℕ → List (Option ℕ) → ℕ → List ℕ → Result ℕ JobFault → List (Option ℕ) → List ℕ → Type 0
TakesNext files name old place before (Ok count) new after = HoldsNext files name old place before count new after
TakesNext files name old place before (Err (fault.File file.NotFound)) new after = get files name ≡ None
TakesNext files name old place before (Err fault.Memory) new after = Unit {0}
TakesNext files name old place before (Err why) new after = ⊥

abbrev pub TakesAll : Files → List ℕ → Result ℕ JobFault → List (Option ℕ) → List ℕ → Type 0
TakesAll files names (Ok total) places blocks = HoldsFirst files names places blocks total
TakesAll files names (Err (fault.File file.NotFound)) places blocks = IsOneOut files names
TakesAll files names (Err fault.Memory) places blocks = Unit {0}
TakesAll files names (Err why) places blocks = ⊥

-- ## A job that assembles

-- a job that assembles is begun
pub record HasBegunAssembly (old : MountState) (target : ℕ) (from : List ℕ) (it : Assembly) (left : ℕ) (new : MountState) : Type 0 where
  pub there : AreIn (files_of old.blocks) from
  pub unheld : contains old.holds target ≡ false
  pub other : contains from target ≡ false
  pub held : HasHeld old it.holds new
  pub names : names_of it.holds ≡ from
  pub is_target : it.to ≡ target
  pub stands : AssemblyStands old.blocks it left
  pub fits : AssemblyFits it left
  pub turns : left ≡ assembling_turns (blocks_among (words_in (files_of old.blocks) from))

-- nothing is changed but the order in which names are held
pub record HoldsAgain (old new : MountState) : Type 0 where
  pub same : (name : ℕ) → times name new.holds ≡ times name old.holds
  pub others : new ≡ record old { holds = new.holds }

abbrev pub BeginsAssembly : MountState → ℕ → List ℕ → Result (Assembly × ℕ) JobFault → MountState → Type 0
BeginsAssembly old target from (Ok begun) new = HasBegunAssembly old target from begun.0 begun.1 new
BeginsAssembly old target from (Err (fault.File file.NotFound)) new = IsOneOut (files_of old.blocks) from × HoldsAgain old new
BeginsAssembly old target from (Err (fault.File (file.Busy other))) new =
    (other ≡ target) × AreIn (files_of old.blocks) from × ((contains old.holds target ≡ true) ⊎ (contains from target ≡ true)) × HoldsAgain old new
BeginsAssembly old target from (Err fault.Memory) new = HoldsAgain old new
BeginsAssembly old target from (Err why) new = ⊥

-- The result of a turn that reads a block of the sources, of these words.
abbrev pub ReadsSource : List (List ℕ) → MountState → ℕ → Result (Unit {0}) JobFault → MountState → Assembly → Type 0
ReadsSource sources old left (Ok nothing) new it = HasReadOne old new × TakesBlock sources left (Ok tt) it.assembling
ReadsSource sources old left (Err fault.Memory) new it = HasReadOne old new × IsAssembling sources it.assembling left
ReadsSource sources old left (Err (fault.Asm (asm.At code line))) new it = HasReadOne old new × TakesBlock sources left (Err (asm.At code line)) it.assembling
ReadsSource sources old left (Err (fault.Asm asm.Memory)) new it = ⊥
ReadsSource sources old left (Err (fault.File file.Device)) new it = HasMissedOne old new
ReadsSource sources old left (Err (fault.File why)) new it = ⊥
ReadsSource sources old left (Err why) new it = ⊥

-- ## Each job

-- a job that goes on loads the same file
abbrev pub FitsOn : ℕ → Work → ℕ → Type 0
FitsOn hold (work.Loading it) left = LoadingFits it left × (it.hold ≡ hold)
FitsOn hold (work.Assembling it) left = ⊥
FitsOn hold (work.Squeezing clean) left = ⊥

abbrev pub FitsAfter : ℕ → Option Job → Type 0
FitsAfter hold None = Unit {0}
FitsAfter hold (Some it) = FitsOn hold it.work it.turns

-- the turns that a job has left, where it isn't at its end
abbrev pub turns_of : Option Job → ℕ
turns_of None = 0
turns_of (Some it) = it.turns

-- the names that a job holds, where it isn't at its end
abbrev pub names_in : Option Job → List ℕ
names_in None = []
names_in (Some it) = held_by_work (work_of it.work)

-- the jobs after a turn, where its end may have changed the directory
abbrev pub jobs_after : Bool → List (Option Job) → List (Option Job)
jobs_after true jobs = with_disturbance jobs
jobs_after false jobs = jobs

-- the same without what they keep
abbrev pub plain_after : Bool → List (Option plain.Job) → List (Option plain.Job)
plain_after true jobs = plain.with_disturbance jobs
plain_after false jobs = jobs

-- a name is held just where a job names it
abbrev pub AreNamed : List ℕ → List (Option plain.Job) → Type 0
AreNamed holds jobs = (name : ℕ) → contains holds name ≡ contains (names_of_jobs jobs) name

-- ## Calls

-- the holds where a job goes on, or ends
abbrev pub left_holds : ℕ → Option Job → List ℕ → List ℕ
left_holds hold None holds = without_hold hold holds
left_holds hold (Some it) holds = holds

-- a turn that writes no block reads one at most, and a job that ends is held once less
pub record LeavesHold (old : MountState) (hold : ℕ) (after : Option Job) (new : MountState) : Type 0 where
  pub reads : ReadsOne old new
  pub others : new ≡ record old { reads = new.reads; failed_reads = new.failed_reads; holds = left_holds hold after old.holds }

-- The result of a turn of a job that loads, with so many turns left: it answers, and hands the job back where it isn't at its
-- end.
pub record TurnsLoading (old : MountState) (core : List ℕ) (job : Loading) (left : ℕ) (answer : Answer) (after : Option Job) (new : MountState) (core' : List ℕ) : Type 0 where
  pub kind : is_assembled answer ≡ false
  pub step : (number : ℕ) (jobs : List (Option plain.Job)) → plain.job_of number jobs ≡ Some (plain.loading job.hold left) → NoCallFailed old new
      → LoadingTurn (state_over old core jobs) number job.hold left answer (state_over new core' (plain.with_job number (plain_job after) jobs))
  pub jobs : (number : ℕ) (jobs : List (Option plain.Job)) → plain.job_of number jobs ≡ Some (plain.loading job.hold left) → LeavesJobs number answer jobs (plain.with_job number (plain_job after) jobs)
  pub volume : TurnsOver old answer new
  pub same_core : (why : JobFault) → answer ≡ Err why → core' ≡ core
  pub stands : new.stopped ≡ false → StandsIn new.blocks after
  pub kept : LeavesHold old job.hold after new
  pub fits : FitsAfter job.hold after
  pub fewer : (answer ≡ Err fault.Memory → ⊥) → turns_of after < left

-- The result of a turn of any job: it answers, and hands the job back where it isn't at its end. A job that goes on holds what it
-- held, and one that ends holds nothing. Files that are held keep their words, and no more files have a free block below them,
-- but where a target was put.
pub record TurnsJob (old : MountState) (core : List ℕ) (job : Job) (answer : Answer) (after : Option Job) (new : MountState) (core' : List ℕ) : Type 0 where
  pub step : (number : ℕ) (jobs : List (Option plain.Job)) → plain.job_of number jobs ≡ plain_job (Some job) → AreNamed old.holds jobs → NoCallFailed old new
      → WorkTurn (state_over old core jobs) number (work_of job.work) job.turns answer (state_over new core' (plain_after (is_assembled answer) (plain.with_job number (plain_job after) jobs)))
  pub jobs : (number : ℕ) (jobs : List (Option plain.Job)) → plain.job_of number jobs ≡ plain_job (Some job) → LeavesJobs number answer jobs (plain.with_job number (plain_job after) jobs)
  pub volume : TurnsOver old answer new
  pub same_core : (why : JobFault) → answer ≡ Err why → core' ≡ core
  pub stands : new.stopped ≡ false → StandsIn new.blocks after
  pub fits : FitsIn after
  pub holds : (name : ℕ) → times name new.holds + times name (names_in (Some job)) ≡ times name old.holds + times name (names_in after)
  pub running : new.stopped ≡ false → old.stopped ≡ false
  pub none : new.tentative ≡ None
  pub kept : KeepsHeld old new
  pub above : is_assembled answer ≡ false → new.stopped ≡ false → above_of new.blocks ≤ above_of old.blocks
  pub fewer : (answer ≡ Err fault.Memory → ⊥) → turns_of after < job.turns
  pub calls : WorkCalls job.work job.turns old new
  pub squeezed : (clean : Bool) → job.work ≡ work.Squeezing clean → TellsSqueeze job.turns old answer new
  pub room : IfFile (WorkTellsRoom (work_of job.work) old) answer

-- The result of beginning a job that loads.
pub record HasBegunLoading (old : MountState) (name : ℕ) (it : Loading) (left : ℕ) (new : MountState) : Type 0 where
  pub running : old.stopped ≡ false
  pub words : List ℕ
  pub has : HasWords (files_of old.blocks) name words
  pub stands : IsLoading words it left
  pub turns : left ≡ loading_turns (blocks_in words)
  pub holds : it.hold ≡ name
  pub fits : LoadingFits it left
  pub others : new ≡ record old { holds = with_hold name old.holds }

abbrev pub BeginsLoading : MountState → ℕ → Result (Loading × ℕ) FileFault → MountState → Type 0
BeginsLoading old name (Ok begun) new = HasBegunLoading old name begun.0 begun.1 new
BeginsLoading old name (Err file.NotFound) new = (old.stopped ≡ false) × (get (files_of old.blocks) name ≡ None) × (new ≡ old)
BeginsLoading old name (Err file.Stopped) new = (old.stopped ≡ true) × (new ≡ old)
BeginsLoading old name (Err file.Memory) new = (old.stopped ≡ false) × IsIn (files_of old.blocks) name × (new ≡ old)
BeginsLoading old name (Err why) new = ⊥

-- what the one call of a squeezing turn makes of its job, with so many turns left
abbrev pub SqueezeTurns : Bool → ℕ → Result tokens.Squeezed FileFault → Answer → Option Job → Type 0
SqueezeTurns clean left (Ok (token.Moved name)) answer after =
    ((2 ≤ left) × (answer ≡ Ok Working) × (after ≡ Some (record { work = work.Squeezing clean; turns = left - 1 })))
    ⊎ ((left ≡ 1) × (answer ≡ Ok Squeezed) × (after ≡ None))
SqueezeTurns clean left (Ok token.Nothing) answer after = (answer ≡ Ok Squeezed) × (after ≡ None)
SqueezeTurns clean left (Err file.Memory) answer after = (answer ≡ Err fault.Memory) × (after ≡ Some (record { work = work.Squeezing clean; turns = left }))
SqueezeTurns clean left (Err why) answer after = (answer ≡ Err (fault_of_file why)) × (after ≡ None)

-- ## The end

-- the holds without those of a job
abbrev pub without_work : Work → List ℕ → List ℕ
without_work (work.Loading it) holds = without_hold it.hold holds
without_work (work.Assembling it) holds = without_holds it.holds holds
without_work (work.Squeezing clean) holds = holds

abbrev pub without_job : Option Job → List ℕ → List ℕ
without_job None holds = holds
without_job (Some it) holds = without_work it.work holds

-- the holds without those of some jobs
abbrev pub without_jobs : List (Option Job) → List ℕ → List ℕ
without_jobs [] holds = holds
without_jobs (it ∷ jobs) holds = without_jobs jobs (without_job it holds)

-- no job at any place
abbrev pub no_jobs : {A : Type 0} → List (Option A) → List (Option A)
no_jobs [] = []
no_jobs (it ∷ jobs) = None ∷ no_jobs jobs
