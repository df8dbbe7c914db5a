-- The result of an entry where a write has failed before.
use Rattle.std.specs.Prelude.{◌≡◌, ◌⊎◌, ℕ, true, false, Some, None, List, Ok, Err}
use Rattle.char_pack.specs.Texts.{is_storable}
use Rattle.os8_dir.specs.Names.{parsed_name}
use Rattle.os8_dir.specs.declared.file_faults.FileFault.TheVariants as file
use Rattle.volume_jobs.specs.Jobs.{Job, job_of}
use Rattle.script8.specs.declared.entries.Entry.{Entry}
use Rattle.script8.specs.declared.entries.Entry.TheVariants as entry
use Rattle.script8.specs.declared.entries.FileEntry.{FileEntry}
use Rattle.script8.specs.declared.entries.FileEntry.TheVariants as files
use Rattle.script8.specs.declared.entries.JobEntry.{JobEntry}
use Rattle.script8.specs.declared.entries.JobEntry.TheVariants as job
use Rattle.refusals.specs.declared.faults.SessionFault.{SessionFault}
use Rattle.refusals.specs.declared.faults.SessionFault.TheVariants.{BadLine, NoJob, File, BadText}
use Rattle.system_session.specs.Files.{parsed_names}
use Rattle.system_session.specs.Refusals.{IsOfNoForm, NamesFiles, after_refusal}
use Rattle.system_session.specs.State.{State}
use Rattle.system_session.specs.System.{Answer, MayAnswer}

-- bytes are a name
abbrev pub IsName : List ℕ → Type 0
IsName bytes = (name : ℕ) × (parsed_name bytes ≡ Some name)

-- Why an entry of files is refused where a write has failed before. Its name and its text are judged first; then it is Stopped,
-- whatever else would be refused.
abbrev pub FilesStopFor : FileEntry → SessionFault → Type 0
FilesStopFor (files.Store name text) (File file.BadName) = parsed_name name ≡ None
FilesStopFor (files.Store name text) BadText = IsName name × (is_storable text ≡ false)
FilesStopFor (files.Store name text) (File file.Stopped) = IsName name × (is_storable text ≡ true)
FilesStopFor (files.Delete name) (File file.BadName) = parsed_name name ≡ None
FilesStopFor (files.Delete name) (File file.Stopped) = IsName name
FilesStopFor files.Direct (File file.Stopped) = Unit {0}
FilesStopFor entry why = ⊥

-- Why an entry of jobs is: its form and its names are judged first, and whether there is a job to take a turn.
abbrev pub JobsStopFor : State → JobEntry → SessionFault → Type 0
JobsStopFor s (job.Assemble to from) BadLine = IsOfNoForm from
JobsStopFor s (job.Assemble to from) (File file.BadName) =
    (IsOfNoForm from → ⊥) × ((parsed_name to ≡ None) ⊎ (parsed_names from ≡ None))
JobsStopFor s (job.Assemble to from) (File file.Stopped) = NamesFiles to from (λ target sources. Unit {0})
JobsStopFor s (job.Load name) (File file.BadName) = parsed_name name ≡ None
JobsStopFor s (job.Load name) (File file.Stopped) = IsName name
JobsStopFor s job.Squeeze (File file.Stopped) = Unit {0}
JobsStopFor s (job.Turn number) NoJob = job_of number s.jobs ≡ None
JobsStopFor s (job.Turn number) (File file.Stopped) = (it : Job) × (job_of number s.jobs ≡ Some it)
JobsStopFor s entry why = ⊥

-- The result of an entry where a write has failed before: at the console the step that it always is, and any other is refused. A
-- refused turn ends its job.
abbrev pub MayAnswerStopped : State → Entry → Answer → State → Type 0
MayAnswerStopped old (entry.Console it) answer new = MayAnswer old (entry.Console it) answer new
MayAnswerStopped old (entry.Files it) (Err why) new = FilesStopFor it why × (new ≡ old)
MayAnswerStopped old (entry.Files it) (Ok reply) new = ⊥
MayAnswerStopped old (entry.Jobs it) (Err why) new =
    JobsStopFor old it why × (new ≡ after_refusal old (entry.Jobs it))
MayAnswerStopped old (entry.Jobs it) (Ok reply) new = ⊥
