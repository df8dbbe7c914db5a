-- Which states of the system machine are the same but for its squeezing jobs.
use Rattle.std.specs.Prelude.{◌≡◌, ℕ, Bool, true, false, Option, Some, None, List, map, Err}
use Rattle.os8_dir.specs.declared.file_faults.FileFault.TheVariants as file
use Rattle.volume_jobs.specs.Jobs.{Job, Work, Assembling, Loading, Squeezing, assembling, loading, job_of, least_free}
use Rattle.script8.specs.declared.entries.Entry.{Entry}
use Rattle.script8.specs.declared.entries.Entry.TheVariants as entry
use Rattle.script8.specs.declared.entries.JobEntry.{JobEntry}
use Rattle.script8.specs.declared.entries.JobEntry.TheVariants as job
use Rattle.refusals.specs.declared.faults.SessionFault.TheVariants.{File}
use Rattle.system_session.specs.State.{State}
use Rattle.system_session.specs.System.{Answer}

-- the job of a work with so many turns left, where it is none that squeezes
abbrev pub lasting_work : Work → ℕ → Option Job
lasting_work (Assembling to from) left = Some (assembling to from left)
lasting_work (Loading from) left = Some (loading from left)
lasting_work (Squeezing clean) left = None

abbrev pub lasting_job : Option Job → Option Job
lasting_job None = None
lasting_job (Some it) = lasting_work it.work it.turns

-- the jobs without those that squeeze: each other one keeps its number
abbrev pub lasting_jobs : List (Option Job) → List (Option Job)
lasting_jobs jobs = map lasting_job jobs

-- the state without its squeezing jobs, in which nothing is said of free blocks below files
abbrev pub without_squeezes : State → State
without_squeezes s = record s { tight = false; jobs = lasting_jobs s.jobs }

-- Two states are the same but for their squeezing jobs, and for what is known of free blocks below files.
abbrev pub IsAlike : State → State → Type 0
IsAlike one two = without_squeezes one ≡ without_squeezes two

-- the number has no job that squeezes
abbrev pub IsLasting : ℕ → State → Type 0
IsLasting number s = lasting_job (job_of number s.jobs) ≡ job_of number s.jobs

-- An entry has nothing to do with squeezing jobs in two states: the job of a turn squeezes in neither. Where a job is to be
-- begun, or refused, the least free number is the same in both.
abbrev pub JobIsApart : JobEntry → State → State → Type 0
JobIsApart (job.Assemble to from) one two = least_free one.jobs ≡ least_free two.jobs
JobIsApart (job.Load name) one two = least_free one.jobs ≡ least_free two.jobs
JobIsApart job.Squeeze one two = least_free one.jobs ≡ least_free two.jobs
JobIsApart (job.Turn number) one two = IsLasting number one × IsLasting number two

abbrev pub IsApart : Entry → State → State → Type 0
IsApart (entry.Files it) one two = Unit {0}
IsApart (entry.Jobs it) one two = JobIsApart it one two
IsApart (entry.Console it) one two = Unit {0}

-- an answer is a refusal that speaks of room: of the blocks or of the entries of the directory
abbrev pub speaks_of_room : Answer → Bool
speaks_of_room (Err (File (file.NoRoom largest))) = true
speaks_of_room (Err (File file.DirectoryFull)) = true
speaks_of_room answer = false
