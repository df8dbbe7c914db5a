-- What replies and refusals come to in states that are the same but for their squeezing jobs.
use Rattle.std.proofs.Common.{◌≡◌, ◌∙◌, inl, inr, ℕ, zero, suc, Bool, true, false, true≢false, Option, Some, None, List, [], ◌∷◌, ◌++◌, ◌-◌, get_or, Ok, Err, refl, ap, sym, subst}
use Rattle.std.specs.FinMap.{insert, remove}
use Rattle.char_pack.specs.Texts.{words_of_text}
use Rattle.os8_dir.specs.Entries.{contains}
use Rattle.os8_dir.specs.Names.{parsed_name}
use Rattle.os8_dir.specs.declared.file_faults.FileFault.{FileFault}
use Rattle.os8_dir.specs.declared.file_faults.FileFault.TheVariants as file
use Rattle.volume_jobs.specs.Jobs.{Job, Work, Assembling, Loading, Squeezing, assembling, loading, job_of, with_job, least_free, names_of_jobs, held_by_work, with_disturbance, disturbed_job}
use Rattle.volume_jobs.specs.Starts.{AssembleStarts, LoadStarts, IsBusy, new_assembling, new_loading, new_squeezing}
use Rattle.volume_jobs.specs.State as jobs
use Rattle.volume_jobs.specs.State.{HasPut, PutRefused, plain_file}
use Rattle.volume_jobs.specs.Turns as turns
use Rattle.volume_jobs.specs.Turns.{JobTurn, WorkTurn}
use Rattle.volume_jobs.specs.declared.faults.JobFault.{JobFault}
use Rattle.volume_jobs.specs.declared.faults.JobFault.TheVariants as job
use Rattle.volume_jobs.specs.declared.turned.Turned.TheVariants as turned
use Rattle.script8.specs.Replies.{job_of_entry}
use Rattle.script8.specs.declared.entries.Entry.{Entry}
use Rattle.script8.specs.declared.entries.Entry.TheVariants as entry
use Rattle.script8.specs.declared.entries.ConsoleEntry.{ConsoleEntry}
use Rattle.script8.specs.declared.entries.FileEntry.{FileEntry}
use Rattle.script8.specs.declared.entries.FileEntry.TheVariants as filing
use Rattle.script8.specs.declared.entries.JobEntry.{JobEntry}
use Rattle.script8.specs.declared.entries.JobEntry.TheVariants as order
use Rattle.refusals.specs.declared.faults.SessionFault.{SessionFault}
use Rattle.refusals.specs.declared.faults.SessionFault.TheVariants as fault
use Rattle.script8.specs.declared.replies.Reply.{Reply}
use Rattle.script8.specs.declared.replies.Reply.TheVariants.{Line, Report}
use Rattle.script8.specs.declared.replies.Report.TheVariants as report
use Rattle.script8.specs.declared.replies.LineReply.TheVariants as line
use Rattle.system_session.specs.Files.{HasDeleted, DeleteRefused}
use Rattle.system_session.specs.Refusals.{NamesFiles, MayRefuse, FilesMayRefuse, JobsMayRefuse, MayLack, after_refusal, jobs_without}
use Rattle.system_session.specs.Same.{lasting_job, lasting_jobs, lasting_work, without_squeezes, IsAlike, IsApart, JobIsApart, speaks_of_room}
use Rattle.system_session.specs.State.{State}
use Rattle.system_session.specs.System.{Answer, MayReply, FilesMayReply, JobsMayReply, ConsoleMayReply, MayAnswer}
use Rattle.system_session.specs.Work.{DoesWork, job_state, with_work, fault_of_job}
use Rattle.system_session.proofs.ReplyLemmas.{stored_alone, deleted_alone, assembled_alone, loaded_alone, squeezed_alone}
use Rattle.system_session.proofs.SameLemmas.{lasting_put, alike}
use Rattle.system_session.proofs.OtherLemmas.{Jobs, AreAlike, same_put, same_disturbed, same_held, same_job, over, same_work, worked, Follows, shown, put_refused, delete_refused, same_number, assemble_refused, load_refused, has_put, number_follows}

-- ## Replies

begins : (one one' : State) (t : Bool) (js : Jobs) (number : ℕ) (it : Job) (after : jobs.State) → AreAlike one.jobs js → after ≡ record (job_state one) { jobs = with_job number (Some it) one.jobs } → one' ≡ with_work one after
    → IsAlike one' (with_work (over one t js) (record (job_state (over one t js)) { jobs = with_job number (Some it) js }))
begins one one' t js number it after same begun is =
    worked one one' t js after (record (job_state (over one t js)) { jobs = with_job number (Some it) js }) (same_work (job_state one) after one.tight t (with_job number (Some it) one.jobs) (with_job number (Some it) js) (same_put number (Some it) one.jobs js same) begun) is

deleted : (one one' : State) (t : Bool) (js : Jobs) (name : ℕ) → AreAlike one.jobs js → DoesWork (HasDeleted name) one one' → (two' : State) × DoesWork (HasDeleted name) (over one t js) two' × IsAlike one' two'
deleted one one' t js name same step = (with_work (over one t js) left, (left, has, refl), worked one one' t js step.0 left (same_work (record (job_state one) { files = remove one.files name }) step.0 step.0.tight t (with_disturbance one.jobs) (with_disturbance js) (same_disturbed one.jobs js same) step.1.others) step.2)
  where
    left : jobs.State
    left = record (job_state one) { files = remove one.files name; tight = t; jobs = with_disturbance js }

    has : HasDeleted name (job_state (over one t js)) left
    has = record { file = step.1.file; there = step.1.there; free = same_held one.jobs js name false same step.1.free; others = refl }

stores : (one one' : State) (t : Bool) (js : Jobs) (name text : List ℕ) (other blocks : ℕ) → AreAlike one.jobs js → FilesMayReply one (filing.Store name text) (Line (line.Stored other blocks)) one' → Follows (over one t js) (entry.Files (filing.Store name text)) (Ok (Line (line.Stored other blocks))) one'
stores one one' t js name text other blocks same step =
    let put = has_put one t js other (words_of_text text) one.jobs js step.2.0 same same step.2.1.1 in
    (with_work (over one t js) put.0, (step.0, step.1, (put.0, (step.2.1.0, put.1), refl)), worked one one' t js step.2.0 put.0 put.2 step.2.2)

deletes : (one one' : State) (t : Bool) (js : Jobs) (name : List ℕ) (other : ℕ) → AreAlike one.jobs js → FilesMayReply one (filing.Delete name) (Line (line.Deleted other)) one' → Follows (over one t js) (entry.Files (filing.Delete name)) (Ok (Line (line.Deleted other))) one'
deletes one one' t js name other same step = let left = deleted one one' t js other same step.1 in (left.0, (step.0, left.1), left.2)

begins_assembling : (one one' : State) (t : Bool) (js : Jobs) (to : List ℕ) (from : List (List ℕ)) (number : ℕ) → AreAlike one.jobs js → least_free one.jobs ≡ least_free js → JobsMayReply one (order.Assemble to from) (Line (line.Job number)) one' → Follows (over one t js) (entry.Jobs (order.Assemble to from)) (Ok (Line (line.Job number))) one'
begins_assembling one one' t js to from number same apart step = (
  _,
  (step.0, step.1, step.2, step.3, (_, (step.4.1.0, record { unheld = same_held one.jobs js step.0 false same step.4.1.1.unheld; other = step.4.1.1.other }, record { least = sym apart ∙ step.4.1.2.least; others = refl }), refl)),
  begins one one' t js number (new_assembling (job_state one) step.0 step.1) step.4.0 same step.4.1.2.others step.4.2,
)

begins_loading : (one one' : State) (t : Bool) (js : Jobs) (name : List ℕ) (number : ℕ) → AreAlike one.jobs js → least_free one.jobs ≡ least_free js → JobsMayReply one (order.Load name) (Line (line.Job number)) one' → Follows (over one t js) (entry.Jobs (order.Load name)) (Ok (Line (line.Job number))) one'
begins_loading one one' t js name number same apart step = (
  _,
  (step.0, step.1, (_, (step.2.1.0, record { least = sym apart ∙ step.2.1.1.least; others = refl }), refl)),
  begins one one' t js number (new_loading (job_state one) step.0) step.2.0 same step.2.1.1.others step.2.2,
)

begins_squeezing : (one one' : State) (t : Bool) (js : Jobs) (number : ℕ) → AreAlike one.jobs js → least_free one.jobs ≡ least_free js → JobsMayReply one order.Squeeze (Line (line.Job number)) one' → Follows (over one t js) (entry.Jobs order.Squeeze) (Ok (Line (line.Job number))) one'
begins_squeezing one one' t js number same apart step = (
  _,
  (_, record { least = sym apart ∙ step.1.least; others = refl }, refl),
  begins one one' t js number (new_squeezing (job_state one)) step.0 same step.1.others step.2,
)

reply_of_files : (one one' : State) (t : Bool) (js : Jobs) (it : FileEntry) (reply : Reply) → AreAlike one.jobs js → FilesMayReply one it reply one' → Follows (over one t js) (entry.Files it) (Ok reply) one'
reply_of_files one one' t js (filing.Store name text) reply same step =
    stored_alone one one' name text (λ (r : Reply). Follows (over one t js) (entry.Files (filing.Store name text)) (Ok r) one') (λ other blocks step. stores one one' t js name text other blocks same step) reply step
reply_of_files one one' t js (filing.Delete name) reply same step =
    deleted_alone one one' name (λ (r : Reply). Follows (over one t js) (entry.Files (filing.Delete name)) (Ok r) one') (λ other step. deletes one one' t js name other same step) reply step
reply_of_files one one' t js filing.Direct (Report (report.Direct lengths free)) same step = (over one t js, (step.0, step.1, refl), ap without_squeezes step.2 ∙ alike one t js (sym same))
reply_of_files one one' t js filing.Direct (Report (report.Registers text)) same step = absurd step
reply_of_files one one' t js filing.Direct (Report (report.Printed characters)) same step = absurd step
reply_of_files one one' t js filing.Direct (Line said) same step = absurd step

reply_of_jobs : (one one' : State) (t : Bool) (js : Jobs) (it : JobEntry) (reply : Reply) → AreAlike one.jobs js → JobIsApart it one (over one t js) → JobsMayReply one it reply one' → Follows (over one t js) (entry.Jobs it) (Ok reply) one'
reply_of_jobs one one' t js (order.Assemble to from) reply same apart step =
    assembled_alone one one' to from (λ (r : Reply). Follows (over one t js) (entry.Jobs (order.Assemble to from)) (Ok r) one') (λ number step. begins_assembling one one' t js to from number same apart step) reply step
reply_of_jobs one one' t js (order.Load name) reply same apart step =
    loaded_alone one one' name (λ (r : Reply). Follows (over one t js) (entry.Jobs (order.Load name)) (Ok r) one') (λ number step. begins_loading one one' t js name number same apart step) reply step
reply_of_jobs one one' t js order.Squeeze reply same apart step =
    squeezed_alone one one' (λ (r : Reply). Follows (over one t js) (entry.Jobs order.Squeeze) (Ok r) one') (λ number step. begins_squeezing one one' t js number same apart step) reply step
reply_of_jobs one one' t js (order.Turn number) (Line said) same apart step =
    let done = number_follows one t js number (Ok step.0) step.2.0 same apart refl step.2.1 in
    (with_work (over one t js) done.0, (step.0, step.1, (done.0, done.1, refl)), worked one one' t js step.2.0 done.0 done.2 step.2.2)
reply_of_jobs one one' t js (order.Turn number) (Report report) same apart step = absurd step

replies : (one one' : State) (t : Bool) (js : Jobs) (e : Entry) (reply : Reply) → AreAlike one.jobs js → IsApart e one (over one t js) → MayReply one e reply one' → Follows (over one t js) e (Ok reply) one'
replies one one' t js (entry.Files it) reply same apart step = reply_of_files one one' t js it reply same step
replies one one' t js (entry.Jobs it) reply same apart step = reply_of_jobs one one' t js it reply same apart step
replies one one' t js (entry.Console it) reply same apart step = shown one one' t js it reply same step

-- ## Refusals of entries

assemble_may : (one : State) (t : Bool) (js : Jobs) (to : List ℕ) (from : List (List ℕ)) (why : SessionFault) → AreAlike one.jobs js → least_free one.jobs ≡ least_free js
    → NamesFiles to from (λ target sources. (fault : JobFault) × (why ≡ fault_of_job fault) × AssembleStarts (job_state one) target sources (Err fault) (job_state one))
    → NamesFiles to from (λ target sources. (fault : JobFault) × (why ≡ fault_of_job fault) × AssembleStarts (job_state (over one t js)) target sources (Err fault) (job_state (over one t js)))
assemble_may one t js to from why same free may = (may.0, may.1, may.2, may.3, (may.4.0, may.4.1, assemble_refused one t js may.0 may.1 may.4.0 same free may.4.2))

load_may : (one : State) (t : Bool) (js : Jobs) (name : List ℕ) (why : SessionFault) → least_free one.jobs ≡ least_free js
    → (n : ℕ) × (parsed_name name ≡ Some n) × ((fault : JobFault) × (why ≡ fault_of_job fault) × LoadStarts (job_state one) n (Err fault) (job_state one))
    → (n : ℕ) × (parsed_name name ≡ Some n) × ((fault : JobFault) × (why ≡ fault_of_job fault) × LoadStarts (job_state (over one t js)) n (Err fault) (job_state (over one t js)))
load_may one t js name why free may = (may.0, may.1, (may.2.0, may.2.1, load_refused one t js may.0 may.2.0 free may.2.2))

refusal_of_files : (one : State) (t : Bool) (js : Jobs) (it : FileEntry) (why : SessionFault) → AreAlike one.jobs js → speaks_of_room (Err why) ≡ false → FilesMayRefuse one it why → FilesMayRefuse (over one t js) it why
refusal_of_files one t js (filing.Store name text) (fault.File file.NotFound) same room may = (may.0, may.1, may.2, put_refused one t js may.0 (words_of_text text) file.NotFound same room may.3)
refusal_of_files one t js (filing.Store name text) (fault.File (file.NoRoom n)) same room may = (may.0, may.1, may.2, put_refused one t js may.0 (words_of_text text) (file.NoRoom n) same room may.3)
refusal_of_files one t js (filing.Store name text) (fault.File file.DirectoryFull) same room may = (may.0, may.1, may.2, put_refused one t js may.0 (words_of_text text) file.DirectoryFull same room may.3)
refusal_of_files one t js (filing.Store name text) (fault.File (file.Busy n)) same room may = (may.0, may.1, may.2, put_refused one t js may.0 (words_of_text text) (file.Busy n) same room may.3)
refusal_of_files one t js (filing.Store name text) (fault.File file.BadName) same room may = may
refusal_of_files one t js (filing.Store name text) (fault.File file.TooLong) same room may = (may.0, may.1, may.2, put_refused one t js may.0 (words_of_text text) file.TooLong same room may.3)
refusal_of_files one t js (filing.Store name text) (fault.File file.TentativeOpen) same room may = (may.0, may.1, may.2, put_refused one t js may.0 (words_of_text text) file.TentativeOpen same room may.3)
refusal_of_files one t js (filing.Store name text) (fault.File file.Device) same room may = (may.0, may.1, may.2, put_refused one t js may.0 (words_of_text text) file.Device same room may.3)
refusal_of_files one t js (filing.Store name text) (fault.File file.Stopped) same room may = (may.0, may.1, may.2, put_refused one t js may.0 (words_of_text text) file.Stopped same room may.3)
refusal_of_files one t js (filing.Store name text) (fault.File file.Memory) same room may = (may.0, may.1, may.2, put_refused one t js may.0 (words_of_text text) file.Memory same room may.3)
refusal_of_files one t js (filing.Store name text) (fault.File file.NothingWritten) same room may = (may.0, may.1, may.2, put_refused one t js may.0 (words_of_text text) file.NothingWritten same room may.3)
refusal_of_files one t js (filing.Store name text) fault.BadLine same room may = absurd may
refusal_of_files one t js (filing.Store name text) fault.NoJob same room may = absurd may
refusal_of_files one t js (filing.Store name text) fault.TooManyJobs same room may = absurd may
refusal_of_files one t js (filing.Store name text) (fault.Asm a) same room may = absurd may
refusal_of_files one t js (filing.Store name text) (fault.Tape a) same room may = absurd may
refusal_of_files one t js (filing.Store name text) fault.BadText same room may = may
refusal_of_files one t js (filing.Store name text) fault.Reader same room may = absurd may
refusal_of_files one t js (filing.Store name text) fault.Writer same room may = absurd may
refusal_of_files one t js (filing.Store name text) fault.Memory same room may = absurd may
refusal_of_files one t js (filing.Store name text) fault.TooManyBreaks same room may = absurd may
refusal_of_files one t js (filing.Delete name) (fault.File file.NotFound) same room may = (may.0, may.1, delete_refused one t js may.0 file.NotFound same room may.2)
refusal_of_files one t js (filing.Delete name) (fault.File (file.NoRoom n)) same room may = (may.0, may.1, delete_refused one t js may.0 (file.NoRoom n) same room may.2)
refusal_of_files one t js (filing.Delete name) (fault.File file.DirectoryFull) same room may = (may.0, may.1, delete_refused one t js may.0 file.DirectoryFull same room may.2)
refusal_of_files one t js (filing.Delete name) (fault.File (file.Busy n)) same room may = (may.0, may.1, delete_refused one t js may.0 (file.Busy n) same room may.2)
refusal_of_files one t js (filing.Delete name) (fault.File file.BadName) same room may = may
refusal_of_files one t js (filing.Delete name) (fault.File file.TooLong) same room may = (may.0, may.1, delete_refused one t js may.0 file.TooLong same room may.2)
refusal_of_files one t js (filing.Delete name) (fault.File file.TentativeOpen) same room may = (may.0, may.1, delete_refused one t js may.0 file.TentativeOpen same room may.2)
refusal_of_files one t js (filing.Delete name) (fault.File file.Device) same room may = (may.0, may.1, delete_refused one t js may.0 file.Device same room may.2)
refusal_of_files one t js (filing.Delete name) (fault.File file.Stopped) same room may = (may.0, may.1, delete_refused one t js may.0 file.Stopped same room may.2)
refusal_of_files one t js (filing.Delete name) (fault.File file.Memory) same room may = (may.0, may.1, delete_refused one t js may.0 file.Memory same room may.2)
refusal_of_files one t js (filing.Delete name) (fault.File file.NothingWritten) same room may = (may.0, may.1, delete_refused one t js may.0 file.NothingWritten same room may.2)
refusal_of_files one t js (filing.Delete name) fault.BadLine same room may = absurd may
refusal_of_files one t js (filing.Delete name) fault.NoJob same room may = absurd may
refusal_of_files one t js (filing.Delete name) fault.TooManyJobs same room may = absurd may
refusal_of_files one t js (filing.Delete name) (fault.Asm a) same room may = absurd may
refusal_of_files one t js (filing.Delete name) (fault.Tape a) same room may = absurd may
refusal_of_files one t js (filing.Delete name) fault.BadText same room may = absurd may
refusal_of_files one t js (filing.Delete name) fault.Reader same room may = absurd may
refusal_of_files one t js (filing.Delete name) fault.Writer same room may = absurd may
refusal_of_files one t js (filing.Delete name) fault.Memory same room may = absurd may
refusal_of_files one t js (filing.Delete name) fault.TooManyBreaks same room may = absurd may
refusal_of_files one t js filing.Direct why same room may = absurd may

refusal_of_jobs : (one : State) (t : Bool) (js : Jobs) (it : JobEntry) (why : SessionFault) → AreAlike one.jobs js → JobIsApart it one (over one t js) → speaks_of_room (Err why) ≡ false → JobsMayRefuse one it why → JobsMayRefuse (over one t js) it why
refusal_of_jobs one t js (order.Assemble to from) (fault.File file.NotFound) same apart room may = assemble_may one t js to from (fault.File file.NotFound) same apart may
refusal_of_jobs one t js (order.Assemble to from) (fault.File (file.NoRoom n)) same apart room may = assemble_may one t js to from (fault.File (file.NoRoom n)) same apart may
refusal_of_jobs one t js (order.Assemble to from) (fault.File file.DirectoryFull) same apart room may = assemble_may one t js to from (fault.File file.DirectoryFull) same apart may
refusal_of_jobs one t js (order.Assemble to from) (fault.File (file.Busy n)) same apart room may = assemble_may one t js to from (fault.File (file.Busy n)) same apart may
refusal_of_jobs one t js (order.Assemble to from) (fault.File file.BadName) same apart room may = may
refusal_of_jobs one t js (order.Assemble to from) (fault.File file.TooLong) same apart room may = assemble_may one t js to from (fault.File file.TooLong) same apart may
refusal_of_jobs one t js (order.Assemble to from) (fault.File file.TentativeOpen) same apart room may = assemble_may one t js to from (fault.File file.TentativeOpen) same apart may
refusal_of_jobs one t js (order.Assemble to from) (fault.File file.Device) same apart room may = assemble_may one t js to from (fault.File file.Device) same apart may
refusal_of_jobs one t js (order.Assemble to from) (fault.File file.Stopped) same apart room may = assemble_may one t js to from (fault.File file.Stopped) same apart may
refusal_of_jobs one t js (order.Assemble to from) (fault.File file.Memory) same apart room may = assemble_may one t js to from (fault.File file.Memory) same apart may
refusal_of_jobs one t js (order.Assemble to from) (fault.File file.NothingWritten) same apart room may = assemble_may one t js to from (fault.File file.NothingWritten) same apart may
refusal_of_jobs one t js (order.Assemble to from) fault.BadLine same apart room may = may
refusal_of_jobs one t js (order.Assemble to from) fault.NoJob same apart room may = assemble_may one t js to from fault.NoJob same apart may
refusal_of_jobs one t js (order.Assemble to from) fault.TooManyJobs same apart room may = assemble_may one t js to from fault.TooManyJobs same apart may
refusal_of_jobs one t js (order.Assemble to from) (fault.Asm a) same apart room may = assemble_may one t js to from (fault.Asm a) same apart may
refusal_of_jobs one t js (order.Assemble to from) (fault.Tape a) same apart room may = assemble_may one t js to from (fault.Tape a) same apart may
refusal_of_jobs one t js (order.Assemble to from) fault.BadText same apart room may = assemble_may one t js to from fault.BadText same apart may
refusal_of_jobs one t js (order.Assemble to from) fault.Reader same apart room may = assemble_may one t js to from fault.Reader same apart may
refusal_of_jobs one t js (order.Assemble to from) fault.Writer same apart room may = assemble_may one t js to from fault.Writer same apart may
refusal_of_jobs one t js (order.Assemble to from) fault.Memory same apart room may = assemble_may one t js to from fault.Memory same apart may
refusal_of_jobs one t js (order.Assemble to from) fault.TooManyBreaks same apart room may = assemble_may one t js to from fault.TooManyBreaks same apart may
refusal_of_jobs one t js (order.Load name) (fault.File file.NotFound) same apart room may = load_may one t js name (fault.File file.NotFound) apart may
refusal_of_jobs one t js (order.Load name) (fault.File (file.NoRoom n)) same apart room may = load_may one t js name (fault.File (file.NoRoom n)) apart may
refusal_of_jobs one t js (order.Load name) (fault.File file.DirectoryFull) same apart room may = load_may one t js name (fault.File file.DirectoryFull) apart may
refusal_of_jobs one t js (order.Load name) (fault.File (file.Busy n)) same apart room may = load_may one t js name (fault.File (file.Busy n)) apart may
refusal_of_jobs one t js (order.Load name) (fault.File file.BadName) same apart room may = may
refusal_of_jobs one t js (order.Load name) (fault.File file.TooLong) same apart room may = load_may one t js name (fault.File file.TooLong) apart may
refusal_of_jobs one t js (order.Load name) (fault.File file.TentativeOpen) same apart room may = load_may one t js name (fault.File file.TentativeOpen) apart may
refusal_of_jobs one t js (order.Load name) (fault.File file.Device) same apart room may = load_may one t js name (fault.File file.Device) apart may
refusal_of_jobs one t js (order.Load name) (fault.File file.Stopped) same apart room may = load_may one t js name (fault.File file.Stopped) apart may
refusal_of_jobs one t js (order.Load name) (fault.File file.Memory) same apart room may = load_may one t js name (fault.File file.Memory) apart may
refusal_of_jobs one t js (order.Load name) (fault.File file.NothingWritten) same apart room may = load_may one t js name (fault.File file.NothingWritten) apart may
refusal_of_jobs one t js (order.Load name) fault.BadLine same apart room may = load_may one t js name fault.BadLine apart may
refusal_of_jobs one t js (order.Load name) fault.NoJob same apart room may = load_may one t js name fault.NoJob apart may
refusal_of_jobs one t js (order.Load name) fault.TooManyJobs same apart room may = load_may one t js name fault.TooManyJobs apart may
refusal_of_jobs one t js (order.Load name) (fault.Asm a) same apart room may = load_may one t js name (fault.Asm a) apart may
refusal_of_jobs one t js (order.Load name) (fault.Tape a) same apart room may = load_may one t js name (fault.Tape a) apart may
refusal_of_jobs one t js (order.Load name) fault.BadText same apart room may = load_may one t js name fault.BadText apart may
refusal_of_jobs one t js (order.Load name) fault.Reader same apart room may = load_may one t js name fault.Reader apart may
refusal_of_jobs one t js (order.Load name) fault.Writer same apart room may = load_may one t js name fault.Writer apart may
refusal_of_jobs one t js (order.Load name) fault.Memory same apart room may = load_may one t js name fault.Memory apart may
refusal_of_jobs one t js (order.Load name) fault.TooManyBreaks same apart room may = load_may one t js name fault.TooManyBreaks apart may
refusal_of_jobs one t js order.Squeeze fault.BadLine same apart room may = absurd may
refusal_of_jobs one t js order.Squeeze fault.NoJob same apart room may = absurd may
refusal_of_jobs one t js order.Squeeze fault.TooManyJobs same apart room may = sym apart ∙ may
refusal_of_jobs one t js order.Squeeze (fault.Asm a) same apart room may = absurd may
refusal_of_jobs one t js order.Squeeze (fault.Tape a) same apart room may = absurd may
refusal_of_jobs one t js order.Squeeze fault.BadText same apart room may = absurd may
refusal_of_jobs one t js order.Squeeze fault.Reader same apart room may = absurd may
refusal_of_jobs one t js order.Squeeze fault.Writer same apart room may = absurd may
refusal_of_jobs one t js order.Squeeze fault.Memory same apart room may = absurd may
refusal_of_jobs one t js order.Squeeze fault.TooManyBreaks same apart room may = absurd may
refusal_of_jobs one t js order.Squeeze (fault.File why) same apart room may = absurd may
refusal_of_jobs one t js (order.Turn number) why same apart room may =
    let ended = number_follows one t js number (Err may.0) may.2.0 same apart (sym (ap (λ (f : SessionFault). speaks_of_room (Err f)) may.1) ∙ room) may.2.1 in
    (may.0, may.1, (ended.0, ended.1))

refuses : (one : State) (t : Bool) (js : Jobs) (e : Entry) (why : SessionFault) → AreAlike one.jobs js → IsApart e one (over one t js) → speaks_of_room (Err why) ≡ false → MayRefuse one e why → MayRefuse (over one t js) e why
refuses one t js (entry.Files it) why same apart room may = refusal_of_files one t js it why same room may
refuses one t js (entry.Jobs it) why same apart room may = refusal_of_jobs one t js it why same apart room may
refuses one t js (entry.Console it) why same apart room may = may

-- the jobs that a refusal leaves
without_alike : (ended : Option ℕ) (one two : Jobs) → AreAlike one two → AreAlike (jobs_without ended one) (jobs_without ended two)
without_alike None one two same = same
without_alike (Some number) one two same = same_put number None one two same

refused_alike : (one : State) (t : Bool) (js : Jobs) (e : Entry) → AreAlike one.jobs js → IsAlike (after_refusal one e) (after_refusal (over one t js) e)
refused_alike one t js e same = ap (λ (l : Jobs). record one { tight = false; jobs = l }) (without_alike (job_of_entry e) one.jobs js same)

-- ## Want of memory

lacks : (one : State) (t : Bool) (js : Jobs) (e : Entry) → AreAlike one.jobs js → IsApart e one (over one t js) → MayLack one e → MayLack (over one t js) e
lacks one t js (entry.Files (filing.Store name text)) same apart lack = (lack.0, lack.1, lack.2, same_held one.jobs js lack.0 false same lack.3)
lacks one t js (entry.Files (filing.Delete name)) same apart lack = (lack.0, lack.1, lack.2, same_held one.jobs js lack.0 false same lack.3)
lacks one t js (entry.Files filing.Direct) same apart lack = lack
lacks one t js (entry.Jobs (order.Assemble to from)) same apart lack = (lack.0, lack.1, lack.2, lack.3, (same_number one t js apart lack.4.0, refl))
lacks one t js (entry.Jobs (order.Load name)) same apart lack = (lack.0, lack.1, (same_number one t js apart lack.2.0, lack.2.1, refl))
lacks one t js (entry.Jobs order.Squeeze) same apart lack = lack
lacks one t js (entry.Jobs (order.Turn number)) same apart lack = (lack.0, sym (same_job one.jobs js number same apart.0 apart.1) ∙ lack.1)
lacks one t js (entry.Console it) same apart lack = lack

-- ## Entries

refusal : (one one' : State) (t : Bool) (js : Jobs) (e : Entry) (why : SessionFault) → AreAlike one.jobs js → IsApart e one (over one t js) → speaks_of_room (Err why) ≡ false
    → MayRefuse one e why × (one' ≡ after_refusal one e) → (two' : State) × (MayRefuse (over one t js) e why × (two' ≡ after_refusal (over one t js) e)) × IsAlike one' two'
refusal one one' t js e why same apart room step = (after_refusal (over one t js) e, (refuses one t js e why same apart room step.0, refl), ap without_squeezes step.1 ∙ refused_alike one t js e same)

entry_follows : (one one' : State) (t : Bool) (js : Jobs) (e : Entry) (answer : Answer) → AreAlike one.jobs js → IsApart e one (over one t js) → speaks_of_room answer ≡ false → MayAnswer one e answer one' → Follows (over one t js) e answer one'
entry_follows one one' t js e (Ok reply) same apart room step = replies one one' t js e reply same apart step
entry_follows one one' t js e (Err fault.Memory) same apart room step = (over one t js, (lacks one t js e same apart step.0, refl), ap without_squeezes step.1 ∙ alike one t js (sym same))
entry_follows one one' t js e (Err fault.BadLine) same apart room step = refusal one one' t js e fault.BadLine same apart room step
entry_follows one one' t js e (Err fault.NoJob) same apart room step = refusal one one' t js e fault.NoJob same apart room step
entry_follows one one' t js e (Err fault.TooManyJobs) same apart room step = refusal one one' t js e fault.TooManyJobs same apart room step
entry_follows one one' t js e (Err (fault.Asm a)) same apart room step = refusal one one' t js e (fault.Asm a) same apart room step
entry_follows one one' t js e (Err (fault.Tape a)) same apart room step = refusal one one' t js e (fault.Tape a) same apart room step
entry_follows one one' t js e (Err fault.BadText) same apart room step = refusal one one' t js e fault.BadText same apart room step
entry_follows one one' t js e (Err fault.Reader) same apart room step = refusal one one' t js e fault.Reader same apart room step
entry_follows one one' t js e (Err fault.Writer) same apart room step = refusal one one' t js e fault.Writer same apart room step
entry_follows one one' t js e (Err fault.TooManyBreaks) same apart room step = refusal one one' t js e fault.TooManyBreaks same apart room step
entry_follows one one' t js e (Err (fault.File why)) same apart room step = refusal one one' t js e (fault.File why) same apart room step

-- a state is another one with its own squeezing jobs, where they are the same but for those
over_is : (one two : State) → IsAlike one two → two ≡ over one two.tight two.jobs
over_is one two same = sym (ap (λ (s : State). over s two.tight two.jobs) same)

pub others_follow : (one two one' : State) (e : Entry) (answer : Answer) → IsAlike one two → IsApart e one two → speaks_of_room answer ≡ false → MayAnswer one e answer one' → (two' : State) × MayAnswer two e answer two' × IsAlike one' two'
others_follow one two one' e answer same apart room step = subst (λ (s : State). Follows s e answer one') (sym is) (entry_follows one one' two.tight two.jobs e answer (ap (λ (s : State). s.jobs) same) (subst (λ (s : State). IsApart e one s) is apart) room step)
  where
    is : two ≡ over one two.tight two.jobs
    is = over_is one two same
