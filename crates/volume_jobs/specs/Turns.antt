-- What turns of jobs do, where no block call fails.
use Rattle.std.specs.Prelude.{◌≡◌, ◌⊎◌, ℕ, ◌+◌, ◌-◌, ◌*◌, ◌<◌, ◌≤◌, Bool, true, false, Option, Some, None, List, Result, Ok, Err}
use Rattle.char_pack.specs.Packing.{frames}
use Rattle.core_load.specs.Load.{IsLoaded}
use Rattle.pal_asm.specs.Faults.{fault_of}
use Rattle.os8_files.specs.Service.{count_of}
use Rattle.os8_dir.specs.declared.file_faults.FileFault.TheVariants as file
use Rattle.volume_jobs.specs.declared.faults.JobFault.{JobFault}
use Rattle.volume_jobs.specs.declared.faults.JobFault.TheVariants.{NoJob, File, Asm, Tape, Memory}
use Rattle.volume_jobs.specs.declared.turned.Turned.{Turned}
use Rattle.volume_jobs.specs.declared.turned.Turned.TheVariants.{Working, Assembled, Loaded, Squeezed}
use Rattle.volume_jobs.specs.Jobs.{Job, Work, Assembling, Loading, Squeezing, assembling, loading, squeezing, job_of, with_job}
use Rattle.pal_blocks.specs.Blocks.{blocks_among, blocks_in, assembling_turns, turn_of}
use Rattle.pal_blocks.specs.Sources.{newest_first, assembled_words, IsTapeOfSources}
use Rattle.pal_blocks.specs.Schedule.{fault_at_turn, IsFirstKnown}
use Rattle.volume_jobs.specs.Schedule.{loading_turns, IsMetNone, IsFirstMet}
use Rattle.volume_jobs.specs.State.{State, words_of, words_among, HasPut, PutRefused}

-- what a turn answers
abbrev pub Answer : Type 0
Answer = Result Turned JobFault

-- a job stays with one turn less: at least two were left
pub record HasWorked (old : State) (number : ℕ) (it : Job) (new : State) : Type 0 where
  pub more : 2 ≤ it.turns
  pub others : new ≡ record old { jobs = with_job number (Some (record { work = it.work; turns = it.turns - 1 })) old.jobs }

-- a job ends, and nothing else changes
abbrev pub HasEnded : State → ℕ → State → Type 0
HasEnded old number new = new ≡ record old { jobs = with_job number None old.jobs }

-- ## Loading

-- core is overlaid with the tape in the file, and the job ends
pub record HasLoaded (old : State) (number from : ℕ) (new : State) : Type 0 where
  pub laid : IsLoaded (frames (words_of old from)) old.core new.core
  pub others : new ≡ record old { core = new.core; jobs = with_job number None old.jobs }

-- Turn t of a job that loads a file of n blocks reads block t, and ends the job where the blocks so far show a fault.
-- Turn n + 1 lays the tape over core.
abbrev pub LoadingAt : State → ℕ → ℕ → ℕ → ℕ → Answer → State → Type 0
LoadingAt old number from left turn (Ok Working) new = IsMetNone (words_of old from) turn × HasWorked old number (loading from left) new
LoadingAt old number from left turn (Ok (Loaded name)) new = (name ≡ from) × (left ≡ 1) × HasLoaded old number from new
LoadingAt old number from left turn (Err (Tape fault)) new = (2 ≤ left) × IsFirstMet (words_of old from) turn fault × HasEnded old number new
LoadingAt old number from left turn (Err Memory) new = new ≡ old
LoadingAt old number from left turn answer new = ⊥

abbrev pub LoadingTurn : State → ℕ → ℕ → ℕ → Answer → State → Type 0
LoadingTurn old number from left answer new =
    LoadingAt old number from left (turn_of (loading_turns (blocks_in (words_of old from))) left) answer new

-- ## Assembling

-- sources without fault are assembled to a file, and the job ends
pub record HasAssembled (old : State) (number to : ℕ) (sources : List (List ℕ)) (new : State) : Type 0 where
  pub no_fault : fault_of (newest_first sources) ≡ None
  pub means : IsTapeOfSources sources (assembled_words sources)
  pub put : HasPut old to (assembled_words sources) (with_job number None old.jobs) new

-- Turn t of a job that assembles n blocks reads block t up to t = n, and then block t - n again. It ends the job where the
-- blocks so far show a fault. Turn 2n + 1 puts the target.
abbrev pub AssemblingAt : State → ℕ → ℕ → List ℕ → ℕ → List (List ℕ) → ℕ → Answer → State → Type 0
AssemblingAt old number to from left sources turn (Ok Working) new = (fault_at_turn turn sources ≡ None) × HasWorked old number (assembling to from left) new
AssemblingAt old number to from left sources turn (Ok (Assembled name blocks)) new =
    (name ≡ to) × (left ≡ 1) × (blocks ≡ blocks_in (assembled_words sources)) × HasAssembled old number to sources new
AssemblingAt old number to from left sources turn (Err (Asm fault)) new =
    (2 ≤ left) × (fault_of (newest_first sources) ≡ Some fault) × IsFirstKnown sources turn fault × HasEnded old number new
AssemblingAt old number to from left sources turn (Err (File why)) new =
    (left ≡ 1) × (fault_of (newest_first sources) ≡ None) × PutRefused old to (assembled_words sources) why × HasEnded old number new
AssemblingAt old number to from left sources turn (Err Memory) new = new ≡ old
AssemblingAt old number to from left sources turn answer new = ⊥

abbrev pub AssemblingTurn : State → ℕ → ℕ → List ℕ → ℕ → Answer → State → Type 0
AssemblingTurn old number to from left answer new =
    AssemblingAt old number to from left (words_among old from) (turn_of (assembling_turns (blocks_among (words_among old from))) left) answer new

-- ## Squeezing

-- one file at most is moved down, and no file's words change; what is tight stays so
pub record HasSqueezed (old : State) (jobs : List (Option Job)) (new : State) : Type 0 where
  pub tight : old.tight ≡ true → new.tight ≡ true
  pub others : new ≡ record old { tight = new.tight; jobs = jobs }

-- A turn of a squeezing job moves a file down. It ends the job where there is none to move, or where it is the last. A clean
-- job that ends leaves no free block below a file.
abbrev pub SqueezingTurn : State → ℕ → Bool → ℕ → Answer → State → Type 0
SqueezingTurn old number clean left (Ok Working) new = (2 ≤ left) × (old.tight ≡ false) × HasSqueezed old (with_job number (Some (squeezing clean (left - 1))) old.jobs) new
SqueezingTurn old number clean left (Ok Squeezed) new = ((left ≡ 1) ⊎ (old.tight ≡ true)) × (clean ≡ true → new.tight ≡ true) × HasSqueezed old (with_job number None old.jobs) new
SqueezingTurn old number clean left (Err (File file.DirectoryFull)) new = (old.tight ≡ false) × (old.limit < 2 * count_of old.files + 1) × HasEnded old number new
SqueezingTurn old number clean left (Err Memory) new = new ≡ old
SqueezingTurn old number clean left answer new = ⊥

-- ## Each job

abbrev pub WorkTurn : State → ℕ → Work → ℕ → Answer → State → Type 0
WorkTurn old number (Assembling to from) left answer new = AssemblingTurn old number to from left answer new
WorkTurn old number (Loading from) left answer new = LoadingTurn old number from left answer new
WorkTurn old number (Squeezing clean) left answer new = SqueezingTurn old number clean left answer new

-- the turn of a job, where there is one
abbrev pub JobTurn : State → ℕ → Option Job → Answer → State → Type 0
JobTurn old number None (Err NoJob) new = new ≡ old
JobTurn old number None answer new = ⊥
JobTurn old number (Some it) answer new = WorkTurn old number it.work it.turns answer new

-- a turn of the job of a number
abbrev pub Turns : State → ℕ → Answer → State → Type 0
Turns old number answer new = JobTurn old number (job_of number old.jobs) answer new
