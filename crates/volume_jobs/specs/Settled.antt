-- What stands between entries: the holds are those of the jobs, and what a job has read is the beginning of its files as they are.
use Rattle.std.specs.Prelude.{◌≡◌, ◌≤◌, ◌<◌, ℕ, ◌+◌, Bool, false, true, nat_eq, Option, Some, None, List, [], ◌∷◌, map, length}
use Rattle.char_pack.specs.declared.packing.TheConstants.{BLOCK_FRAMES}
use Rattle.os8_dir.specs.Files.{files_of, capacity_of, limit_of, above_of}
use Rattle.os8_files.specs.Calls.{info_of}
use Rattle.os8_files.specs.Holds.{times}
use Rattle.os8_files.specs.Mounted.{MountState}
use Rattle.volume_jobs.specs.Jobs as plain
use Rattle.volume_jobs.specs.Jobs.{names_of_jobs, held_by_work}
use Rattle.volume_jobs.specs.Reading.{HasWords, IsLoading}
use Rattle.volume_jobs.specs.Sources.{names_of, AssemblyFits, AssemblyStands}
use Rattle.volume_jobs.specs.State.{State}
use Rattle.volume_jobs.specs.declared.loading.Loading.{Loading}
use Rattle.volume_jobs.specs.declared.kinds.Job.{Job}
use Rattle.volume_jobs.specs.declared.kinds.Work.{Work}
use Rattle.volume_jobs.specs.declared.kinds.Work.TheVariants as work

-- ## Jobs without what they keep of their files

abbrev pub work_of : Work → plain.Work
work_of (work.Loading it) = plain.Loading it.hold
work_of (work.Assembling it) = plain.Assembling it.to (names_of it.holds)
work_of (work.Squeezing clean) = plain.Squeezing clean

abbrev pub plain_job : Option Job → Option plain.Job
plain_job None = None
plain_job (Some it) = Some (record { work = work_of it.work; turns = it.turns })

abbrev pub plain_jobs : List (Option Job) → List (Option plain.Job)
plain_jobs jobs = map plain_job jobs

-- what jobs work on, over a volume: the files are those of the store's blocks
abbrev pub state_over : MountState → List ℕ → List (Option plain.Job) → State
state_over m core jobs = record {
  files = files_of m.blocks;
  capacity = capacity_of m.blocks;
  limit = limit_of m.blocks;
  info = info_of m.blocks;
  tight = nat_eq (above_of m.blocks) 0;
  core = core;
  jobs = jobs;
}

-- work where another entry has changed the directory: a squeezing job is clean no longer
abbrev pub disturbed_work : Work → Work
disturbed_work (work.Loading it) = work.Loading it
disturbed_work (work.Assembling it) = work.Assembling it
disturbed_work (work.Squeezing clean) = work.Squeezing false

abbrev pub disturbed_job : Option Job → Option Job
disturbed_job None = None
disturbed_job (Some it) = Some (record { work = disturbed_work it.work; turns = it.turns })

abbrev pub with_disturbance : List (Option Job) → List (Option Job)
with_disturbance jobs = map disturbed_job jobs

-- ## Each job

-- a job that squeezes has a turn left, and while it is clean more turns than files have a free block below them
pub record IsSqueezing (blocks : List (List ℕ)) (clean : Bool) (left : ℕ) : Type 0 where
  pub more : 1 ≤ left
  pub enough : clean ≡ true → above_of blocks < left

-- A job stands so over blocks: what it has read is the beginning of its files as they are now, wherever they lie.
abbrev pub Stands : List (List ℕ) → Work → ℕ → Type 0
Stands blocks (work.Loading it) left = (words : List ℕ) × HasWords (files_of blocks) it.hold words × IsLoading words it left
Stands blocks (work.Assembling it) left = AssemblyStands blocks it left
Stands blocks (work.Squeezing clean) left = IsSqueezing blocks clean left

abbrev pub StandsIn : List (List ℕ) → Option Job → Type 0
StandsIn blocks None = Unit {0}
StandsIn blocks (Some it) = Stands blocks it.work it.turns

abbrev pub AllStand : List (List ℕ) → List (Option Job) → Type 0
AllStand blocks [] = Unit {0}
AllStand blocks (it ∷ jobs) = StandsIn blocks it × AllStand blocks jobs

-- the numbers of a job that loads are in their ranges
pub record LoadingFits (it : Loading) (left : ℕ) : Type 0 where
  pub more : 1 ≤ left
  pub offset : it.offset ≤ BLOCK_FRAMES
  pub turns : it.blocks_read + left ≤ 18446744073709551615

-- the same of each job, also where a write has failed
abbrev pub Fits : Work → ℕ → Type 0
Fits (work.Loading it) left = LoadingFits it left
Fits (work.Assembling it) left = AssemblyFits it left
Fits (work.Squeezing clean) left = 1 ≤ left

abbrev pub FitsIn : Option Job → Type 0
FitsIn None = Unit {0}
FitsIn (Some it) = Fits it.work it.turns

abbrev pub AllFit : List (Option Job) → Type 0
AllFit [] = Unit {0}
AllFit (it ∷ jobs) = FitsIn it × AllFit jobs

-- ## All jobs

-- a name is held as often as jobs name it
abbrev pub AreHeld : List ℕ → List (Option Job) → Type 0
AreHeld holds jobs = (name : ℕ) → times name holds ≡ times name (names_of_jobs (plain_jobs jobs))

-- Between entries no file is being written, the holds are those of the jobs, and each job stands over the blocks.
pub record IsSettled (volume : MountState) (jobs : List (Option Job)) : Type 0 where
  pub none : volume.tentative ≡ None
  pub places : length jobs ≡ 8
  pub held : AreHeld volume.holds jobs
  pub fit : AllFit jobs
  pub stand : volume.stopped ≡ false → AllStand volume.blocks jobs
