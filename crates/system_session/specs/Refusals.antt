-- What the system machine refuses, and why.
use Rattle.std.specs.Prelude.{◌≡◌, ◌⊎◌, ◌<◌, ℕ, true, false, Option, Some, None, Err, List, length}
use Rattle.char_pack.specs.Texts.{is_storable, words_of_text}
use Rattle.os8_dir.specs.Names.{parsed_name}
use Rattle.os8_dir.specs.declared.file_faults.FileFault.TheVariants as file
use Rattle.volume_jobs.specs.Jobs.{Job, job_of, with_job, least_free}
use Rattle.volume_jobs.specs.State as jobs
use Rattle.volume_jobs.specs.State.{IsThere, PutRefused}
use Rattle.volume_jobs.specs.Starts.{AssembleStarts, LoadStarts}
use Rattle.volume_jobs.specs.Turns.{Turns}
use Rattle.volume_jobs.specs.declared.faults.JobFault.{JobFault}
use Rattle.volume_jobs.specs.declared.faults.JobFault.TheVariants.{Memory}
use Rattle.script8.specs.Replies.{job_of_entry}
use Rattle.script8.specs.declared.entries.Entry.{Entry}
use Rattle.script8.specs.declared.entries.Entry.TheVariants as entry
use Rattle.script8.specs.declared.entries.FileEntry.{FileEntry}
use Rattle.script8.specs.declared.entries.FileEntry.TheVariants as files
use Rattle.script8.specs.declared.entries.JobEntry.{JobEntry}
use Rattle.script8.specs.declared.entries.JobEntry.TheVariants as job
use Rattle.word12.specs.declared.sizes.TheConstants.{MOST_SOURCES}
use Rattle.script8.specs.declared.entries.ConsoleEntry.{ConsoleEntry}
use Rattle.refusals.specs.declared.faults.SessionFault.{SessionFault}
use Rattle.refusals.specs.declared.faults.SessionFault.TheVariants.{BadLine, File, BadText, TooManyJobs, TooManyBreaks}
use Rattle.system_session.specs.Console.{IsBreakTooMany, TakesMemory, is_within_limits}
use Rattle.system_session.specs.Files.{parsed_names, IsUnheld, DeleteRefused}
use Rattle.system_session.specs.State.{Console, State}
use Rattle.system_session.specs.Work.{job_state, fault_of_job}

-- an ASSEMBLE has 1 to 8 sources; one of fewer or more is none of the forms
abbrev pub IsOfNoForm : List (List ℕ) → Type 0
IsOfNoForm from = (length from ≡ 0) ⊎ (MOST_SOURCES < length from)

-- a target and its sources are names, of which this holds
abbrev pub NamesFiles : List ℕ → List (List ℕ) → (ℕ → List ℕ → Type 0) → Type 0
NamesFiles to from holds =
    (target : ℕ) × (sources : List ℕ) × (parsed_name to ≡ Some target) × (parsed_names from ≡ Some sources)
    × holds target sources

-- What the machine may refuse an entry of files for.
abbrev pub FilesMayRefuse : State → FileEntry → SessionFault → Type 0
FilesMayRefuse old (files.Store name text) (File file.BadName) = parsed_name name ≡ None
FilesMayRefuse old (files.Store name text) BadText =
    (n : ℕ) × (parsed_name name ≡ Some n) × (is_storable text ≡ false)
FilesMayRefuse old (files.Store name text) (File why) =
    (n : ℕ) × (parsed_name name ≡ Some n) × (is_storable text ≡ true)
    × PutRefused (job_state old) n (words_of_text text) why
FilesMayRefuse old (files.Delete name) (File file.BadName) = parsed_name name ≡ None
FilesMayRefuse old (files.Delete name) (File why) =
    (n : ℕ) × (parsed_name name ≡ Some n) × DeleteRefused (job_state old) n why
FilesMayRefuse old entry why = ⊥

-- What it may refuse an entry of jobs for.
abbrev pub JobsMayRefuse : State → JobEntry → SessionFault → Type 0
JobsMayRefuse old (job.Assemble to from) BadLine = IsOfNoForm from
JobsMayRefuse old (job.Assemble to from) (File file.BadName) =
    (IsOfNoForm from → ⊥) × ((parsed_name to ≡ None) ⊎ (parsed_names from ≡ None))
JobsMayRefuse old (job.Assemble to from) why =
    NamesFiles to from (λ target sources. (fault : JobFault) × (why ≡ fault_of_job fault)
    × AssembleStarts (job_state old) target sources (Err fault) (job_state old))
JobsMayRefuse old (job.Load name) (File file.BadName) = parsed_name name ≡ None
JobsMayRefuse old (job.Load name) why =
    (n : ℕ) × (parsed_name name ≡ Some n)
    × ((fault : JobFault) × (why ≡ fault_of_job fault)
    × LoadStarts (job_state old) n (Err fault) (job_state old))
JobsMayRefuse old job.Squeeze TooManyJobs = least_free old.jobs ≡ None
JobsMayRefuse old job.Squeeze why = ⊥
JobsMayRefuse old (job.Turn number) why =
    (fault : JobFault) × (why ≡ fault_of_job fault)
    × ((after : jobs.State) × Turns (job_state old) number (Err fault) after)

-- What it may refuse an entry of the console for.
abbrev pub ConsoleMayRefuse : Console → ConsoleEntry → SessionFault → Type 0
ConsoleMayRefuse old entry BadLine = is_within_limits entry ≡ false
ConsoleMayRefuse old entry TooManyBreaks = IsBreakTooMany old entry
ConsoleMayRefuse old entry why = ⊥

-- What the machine may refuse an entry for.
abbrev pub MayRefuse : State → Entry → SessionFault → Type 0
MayRefuse old (entry.Files it) why = FilesMayRefuse old it why
MayRefuse old (entry.Jobs it) why = JobsMayRefuse old it why
MayRefuse old (entry.Console it) why = ConsoleMayRefuse old.console it why

-- the jobs where the one of a number, if there is one, has ended
abbrev pub jobs_without : Option ℕ → List (Option Job) → List (Option Job)
jobs_without None them = them
jobs_without (Some number) them = with_job number None them

-- a refusal changes nothing, but that a turn that is refused has ended its job
abbrev pub after_refusal : State → Entry → State
after_refusal old entry = record old { jobs = jobs_without (job_of_entry entry) old.jobs }

-- The machine may lack memory for a text that can be stored under a name that is one and that no job holds, and for the list of the
-- files. A bad name takes none to report, and neither does a file to be deleted that is not there, or held.
abbrev pub FilesMayLack : State → FileEntry → Type 0
FilesMayLack old (files.Store name text) =
    (n : ℕ) × (parsed_name name ≡ Some n) × (is_storable text ≡ true) × IsUnheld (job_state old) n
FilesMayLack old (files.Delete name) =
    (n : ℕ) × (parsed_name name ≡ Some n) × IsThere (job_state old) n × IsUnheld (job_state old) n
FilesMayLack old files.Direct = Unit {0}

-- It may lack it for a job that assembles or loads where there is a number for it, and the file to be loaded is there. It may lack
-- it for the turn of a job that is there.
abbrev pub JobsMayLack : State → JobEntry → Type 0
JobsMayLack old (job.Assemble to from) =
    NamesFiles to from (λ target sources.
    AssembleStarts (job_state old) target sources (Err Memory) (job_state old))
JobsMayLack old (job.Load name) =
    (n : ℕ) × (parsed_name name ≡ Some n) × LoadStarts (job_state old) n (Err Memory) (job_state old)
JobsMayLack old job.Squeeze = ⊥
JobsMayLack old (job.Turn number) = (it : Job) × (job_of number old.jobs ≡ Some it)

-- And it may lack it for the characters that steps of a number within the limits may print, and for reports.
abbrev pub MayLack : State → Entry → Type 0
MayLack old (entry.Files it) = FilesMayLack old it
MayLack old (entry.Jobs it) = JobsMayLack old it
MayLack old (entry.Console it) = TakesMemory it × (is_within_limits it ≡ true)
