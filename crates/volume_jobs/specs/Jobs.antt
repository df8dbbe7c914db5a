-- The jobs of a session: at most eight, each at the place of its number, where job 1 stands first.
use Rattle.std.specs.Prelude.{◌≡◌, ℕ, zero, suc, ◌+◌, ◌<◌, ◌≤◌, Bool, false, Option, Some, None, List, [], ◌∷◌, ◌++◌, map, get_or, slice_set}
use Rattle.std.specs.List.{position}
use Rattle.std.specs.Option.{is_some, is_none}

-- What a job does: it assembles files to a file, loads a file, or moves files down. A squeezing one is clean while no
-- other entry has changed the directory since its start.
pub data Work : Type 0 where
  Assembling : (to : ℕ) → (from : List ℕ) → Work
  Loading : (from : ℕ) → Work
  Squeezing : (clean : Bool) → Work

-- a job, and how many turns it may still take
pub record Job : Type 0 where
  pub work : Work
  pub turns : ℕ

-- the jobs of each kind, with so many turns left
abbrev pub assembling : ℕ → List ℕ → ℕ → Job
assembling to from left = record { work = Assembling to from; turns = left }

abbrev pub loading : ℕ → ℕ → Job
loading from left = record { work = Loading from; turns = left }

abbrev pub squeezing : Bool → ℕ → Job
squeezing clean left = record { work = Squeezing clean; turns = left }

-- no job
abbrev pub no_jobs : List (Option Job)
no_jobs = None ∷ None ∷ None ∷ None ∷ None ∷ None ∷ None ∷ None ∷ []

-- ## Numbers

-- the number of a place
abbrev pub number_at : Option ℕ → Option ℕ
number_at None = None
number_at (Some place) = Some (suc place)

-- the least number that has no job
abbrev pub least_free : List (Option Job) → Option ℕ
least_free jobs = number_at (position is_none jobs)

-- the least number that has a job
abbrev pub lowest_job : List (Option Job) → Option ℕ
lowest_job jobs = number_at (position is_some jobs)

-- the job of a number
abbrev pub job_of : ℕ → List (Option Job) → Option Job
job_of zero jobs = None
job_of (suc place) jobs = get_or jobs place None

-- the jobs with another one, or none, under a number
abbrev pub with_job : ℕ → Option Job → List (Option Job) → List (Option Job)
with_job zero job jobs = jobs
with_job (suc place) job jobs = slice_set jobs place job

-- how many turns jobs may still take
abbrev pub turns_left : List (Option Job) → ℕ
turns_left [] = 0
turns_left (None ∷ jobs) = turns_left jobs
turns_left (Some job ∷ jobs) = job.turns + turns_left jobs

-- of the numbers from 1 to the last one, this is the lowest that has a property
pub record IsLowest (has : ℕ → Type 0) (last number : ℕ) : Type 0 where
  pub least : 1 ≤ number
  pub most : number ≤ last
  pub it : has number
  pub below : (lower : ℕ) → 1 ≤ lower → lower < number → has lower → ⊥

-- none of those numbers has it
abbrev pub IsOfNone : (ℕ → Type 0) → ℕ → Type 0
IsOfNone has last = (number : ℕ) → 1 ≤ number → number ≤ last → has number → ⊥

-- a number has no job
abbrev pub IsFree : List (Option Job) → ℕ → Type 0
IsFree jobs number = job_of number jobs ≡ None

-- a number has a job
abbrev pub IsTaken : List (Option Job) → ℕ → Type 0
IsTaken jobs number = (job : Job) × (job_of number jobs ≡ Some job)

-- ## Names

-- the names that a job's work holds, each as often as it names it: a squeezing one holds none
abbrev pub held_by_work : Work → List ℕ
held_by_work (Assembling to from) = from
held_by_work (Loading from) = from ∷ []
held_by_work (Squeezing clean) = []

-- the names that jobs hold
abbrev pub names_of_jobs : List (Option Job) → List ℕ
names_of_jobs [] = []
names_of_jobs (None ∷ jobs) = names_of_jobs jobs
names_of_jobs (Some job ∷ jobs) = held_by_work job.work ++ names_of_jobs jobs

-- ## Changes of the directory

-- work where another entry has changed the directory: a squeezing job is clean no longer
abbrev pub disturbed_work : Work → Work
disturbed_work (Assembling to from) = Assembling to from
disturbed_work (Loading from) = Loading from
disturbed_work (Squeezing clean) = Squeezing false

abbrev pub disturbed_job : Option Job → Option Job
disturbed_job None = None
disturbed_job (Some job) = Some (record { work = disturbed_work job.work; turns = job.turns })

-- the jobs where another entry has changed the directory
abbrev pub with_disturbance : List (Option Job) → List (Option Job)
with_disturbance jobs = map disturbed_job jobs
