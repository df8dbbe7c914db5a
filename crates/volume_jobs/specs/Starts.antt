-- What the starts of jobs do, where no block call fails.
use Rattle.std.specs.Prelude.{◌≡◌, ◌⊎◌, ℕ, ◌+◌, true, false, Some, None, List, Result, Ok, Err}
use Rattle.std.specs.FinMap.{get}
use Rattle.os8_dir.specs.Entries.{contains}
use Rattle.os8_files.specs.Service.{count_of}
use Rattle.os8_dir.specs.declared.file_faults.FileFault.TheVariants as file
use Rattle.volume_jobs.specs.declared.faults.JobFault.{JobFault}
use Rattle.volume_jobs.specs.declared.faults.JobFault.TheVariants.{TooManyJobs, File, Memory}
use Rattle.volume_jobs.specs.Jobs.{Job, assembling, loading, squeezing, least_free, with_job, names_of_jobs}
use Rattle.pal_blocks.specs.Blocks.{blocks_among, blocks_in, assembling_turns}
use Rattle.volume_jobs.specs.Schedule.{loading_turns}
use Rattle.volume_jobs.specs.State.{State, words_of, words_among, IsThere, AreThere, IsOneMissing}

-- the number of a job that is begun, or why none is
abbrev pub StartResult : Type 0
StartResult = Result ℕ JobFault

-- a number is free for a job
abbrev pub HasNumber : State → Type 0
HasNumber s = (number : ℕ) × (least_free s.jobs ≡ Some number)

-- a job is begun under the least free number
pub record HasBegun (old : State) (number : ℕ) (it : Job) (new : State) : Type 0 where
  pub least : least_free old.jobs ≡ Some number
  pub others : new ≡ record old { jobs = with_job number (Some it) old.jobs }

-- each job at its start, with its turns
abbrev pub new_assembling : State → ℕ → List ℕ → Job
new_assembling s to from = assembling to from (assembling_turns (blocks_among (words_among s from)))

abbrev pub new_loading : State → ℕ → Job
new_loading s from = loading from (loading_turns (blocks_in (words_of s from)))

abbrev pub new_squeezing : State → Job
new_squeezing s = squeezing true (count_of s.files + 1)

-- a file can't be the target of an assembling: a job holds it, or it is among the sources
abbrev pub IsBusy : State → ℕ → List ℕ → Type 0
IsBusy s to from = (contains (names_of_jobs s.jobs) to ≡ true) ⊎ (contains from to ≡ true)

-- it can be
pub record IsIdle (s : State) (to : ℕ) (from : List ℕ) : Type 0 where
  pub unheld : contains (names_of_jobs s.jobs) to ≡ false
  pub other : contains from to ≡ false

-- The refusals come in this order: too many jobs, a source that isn't there, a target that is busy.
abbrev pub AssembleStarts : State → ℕ → List ℕ → StartResult → State → Type 0
AssembleStarts old to from (Ok number) new = AreThere old from × IsIdle old to from × HasBegun old number (new_assembling old to from) new
AssembleStarts old to from (Err TooManyJobs) new = (least_free old.jobs ≡ None) × (new ≡ old)
AssembleStarts old to from (Err (File file.NotFound)) new = HasNumber old × IsOneMissing old from × (new ≡ old)
AssembleStarts old to from (Err (File (file.Busy other))) new = HasNumber old × AreThere old from × (other ≡ to) × IsBusy old to from × (new ≡ old)
AssembleStarts old to from (Err Memory) new = HasNumber old × (new ≡ old)
AssembleStarts old to from (Err fault) new = ⊥

-- The refusals come in this order: too many jobs, a source that isn't there.
abbrev pub LoadStarts : State → ℕ → StartResult → State → Type 0
LoadStarts old from (Ok number) new = IsThere old from × HasBegun old number (new_loading old from) new
LoadStarts old from (Err TooManyJobs) new = (least_free old.jobs ≡ None) × (new ≡ old)
LoadStarts old from (Err (File file.NotFound)) new = HasNumber old × (get old.files from ≡ None) × (new ≡ old)
LoadStarts old from (Err Memory) new = HasNumber old × IsThere old from × (new ≡ old)
LoadStarts old from (Err fault) new = ⊥

-- The one refusal is that there are too many jobs.
abbrev pub SqueezeStarts : State → StartResult → State → Type 0
SqueezeStarts old (Ok number) new = HasBegun old number (new_squeezing old) new
SqueezeStarts old (Err TooManyJobs) new = (least_free old.jobs ≡ None) × (new ≡ old)
SqueezeStarts old (Err fault) new = ⊥
