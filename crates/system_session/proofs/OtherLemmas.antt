-- What entries come to in states that are the same but for their squeezing jobs.
use Rattle.std.proofs.Common.{◌≡◌, ◌∙◌, inl, inr, ℕ, zero, suc, Bool, true, false, true≢false, Option, Some, None, List, [], ◌∷◌, ◌++◌, ◌-◌, get_or, Ok, Err, refl, ap, sym, subst}
use Rattle.std.specs.FinMap.{insert, remove}
use Rattle.char_pack.specs.Texts.{words_of_text}
use Rattle.os8_dir.specs.Entries.{contains}
use Rattle.os8_dir.specs.Names.{parsed_name}
use Rattle.os8_dir.specs.declared.file_faults.FileFault.{FileFault}
use Rattle.os8_dir.specs.declared.file_faults.FileFault.TheVariants as file
use Rattle.volume_jobs.specs.Jobs.{Job, Work, Assembling, Loading, Squeezing, assembling, loading, job_of, with_job, least_free, names_of_jobs, held_by_work, with_disturbance, disturbed_job}
use Rattle.volume_jobs.specs.Starts.{AssembleStarts, LoadStarts, IsBusy, new_assembling, new_loading, new_squeezing}
use Rattle.volume_jobs.specs.State as jobs
use Rattle.volume_jobs.specs.State.{HasPut, PutRefused, plain_file}
use Rattle.volume_jobs.specs.Turns as turns
use Rattle.volume_jobs.specs.Turns.{JobTurn, WorkTurn}
use Rattle.volume_jobs.specs.declared.faults.JobFault.{JobFault}
use Rattle.volume_jobs.specs.declared.faults.JobFault.TheVariants as job
use Rattle.volume_jobs.specs.declared.turned.Turned.TheVariants as turned
use Rattle.script8.specs.Replies.{job_of_entry}
use Rattle.script8.specs.declared.entries.Entry.{Entry}
use Rattle.script8.specs.declared.entries.Entry.TheVariants as entry
use Rattle.script8.specs.declared.entries.ConsoleEntry.{ConsoleEntry}
use Rattle.script8.specs.declared.entries.FileEntry.{FileEntry}
use Rattle.script8.specs.declared.entries.FileEntry.TheVariants as filing
use Rattle.script8.specs.declared.entries.JobEntry.{JobEntry}
use Rattle.script8.specs.declared.entries.JobEntry.TheVariants as order
use Rattle.refusals.specs.declared.faults.SessionFault.{SessionFault}
use Rattle.refusals.specs.declared.faults.SessionFault.TheVariants as fault
use Rattle.script8.specs.declared.replies.Reply.{Reply}
use Rattle.script8.specs.declared.replies.Reply.TheVariants.{Line, Report}
use Rattle.script8.specs.declared.replies.Report.TheVariants as report
use Rattle.script8.specs.declared.replies.LineReply.TheVariants as line
use Rattle.system_session.specs.Files.{HasDeleted, DeleteRefused}
use Rattle.system_session.specs.Refusals.{NamesFiles, MayRefuse, FilesMayRefuse, JobsMayRefuse, MayLack, after_refusal, jobs_without}
use Rattle.system_session.specs.Same.{lasting_job, lasting_jobs, lasting_work, without_squeezes, IsAlike, IsApart, JobIsApart, speaks_of_room}
use Rattle.system_session.specs.State.{State}
use Rattle.system_session.specs.System.{Answer, MayReply, FilesMayReply, JobsMayReply, ConsoleMayReply, MayAnswer}
use Rattle.system_session.specs.Work.{DoesWork, job_state, with_work, fault_of_job}
use Rattle.system_session.proofs.ReplyLemmas.{stored_alone, deleted_alone, assembled_alone, loaded_alone, squeezed_alone}
use Rattle.system_session.proofs.SameLemmas.{lasting_put, alike}

-- ## Jobs

abbrev pub Jobs : Type 0
Jobs = List (Option Job)

-- jobs are the same but for those that squeeze
abbrev pub AreAlike : Jobs → Jobs → Type 0
AreAlike one two = lasting_jobs one ≡ lasting_jobs two

lasting_at : (place : ℕ) (js : Jobs) → get_or (lasting_jobs js) place None ≡ lasting_job (get_or js place None)
lasting_at place [] = refl
lasting_at zero (o ∷ js) = refl
lasting_at (suc place) (o ∷ js) = lasting_at place js

lasting_of : (number : ℕ) (js : Jobs) → job_of number (lasting_jobs js) ≡ lasting_job (job_of number js)
lasting_of zero js = refl
lasting_of (suc place) js = lasting_at place js

-- squeezing jobs hold no name
held_before : (w : Work) (left : ℕ) (js : Jobs) → names_of_jobs (lasting_jobs js) ≡ names_of_jobs js → names_of_jobs (lasting_work w left ∷ lasting_jobs js) ≡ held_by_work w ++ names_of_jobs js
held_before (Assembling to from) left js same = ap (λ l. from ++ l) same
held_before (Loading from) left js same = ap (λ l. from ∷ l) same
held_before (Squeezing clean) left js same = same

lasting_holds : (js : Jobs) → names_of_jobs (lasting_jobs js) ≡ names_of_jobs js
lasting_holds [] = refl
lasting_holds (None ∷ js) = lasting_holds js
lasting_holds (Some it ∷ js) = held_before it.work it.turns js (lasting_holds js)

-- no other job is told that the directory has changed
disturbed_job_lasts : (w : Work) (left : ℕ) → lasting_job (disturbed_job (Some (record { work = w; turns = left }))) ≡ lasting_work w left
disturbed_job_lasts (Assembling to from) left = refl
disturbed_job_lasts (Loading from) left = refl
disturbed_job_lasts (Squeezing clean) left = refl

lasting_disturbed : (js : Jobs) → lasting_jobs (with_disturbance js) ≡ lasting_jobs js
lasting_disturbed [] = refl
lasting_disturbed (None ∷ js) = ap (λ (l : Jobs). None ∷ l) (lasting_disturbed js)
lasting_disturbed (Some it ∷ js) = ap (λ (o : Option Job). o ∷ lasting_jobs (with_disturbance js)) (disturbed_job_lasts it.work it.turns) ∙ ap (λ (l : Jobs). lasting_work it.work it.turns ∷ l) (lasting_disturbed js)

same_holds : (one two : Jobs) → AreAlike one two → names_of_jobs one ≡ names_of_jobs two
same_holds one two same = sym (lasting_holds one) ∙ ap names_of_jobs same ∙ lasting_holds two

pub same_put : (number : ℕ) (j : Option Job) (one two : Jobs) → AreAlike one two → AreAlike (with_job number j one) (with_job number j two)
same_put number j one two same = lasting_put number j one ∙ ap (with_job number (lasting_job j)) same ∙ sym (lasting_put number j two)

pub same_disturbed : (one two : Jobs) → AreAlike one two → AreAlike (with_disturbance one) (with_disturbance two)
same_disturbed one two same = lasting_disturbed one ∙ same ∙ sym (lasting_disturbed two)

pub same_held : (one two : Jobs) (name : ℕ) (is : Bool) → AreAlike one two → contains (names_of_jobs one) name ≡ is → contains (names_of_jobs two) name ≡ is
same_held one two name is same held = sym (ap (λ l. contains l name) (same_holds one two same)) ∙ held

pub same_job : (one two : Jobs) (number : ℕ) → AreAlike one two → lasting_job (job_of number one) ≡ job_of number one → lasting_job (job_of number two) ≡ job_of number two → job_of number one ≡ job_of number two
same_job one two number same first second = sym first ∙ sym (lasting_of number one) ∙ ap (job_of number) same ∙ lasting_of number two ∙ second

-- ## States

-- a state with other jobs
abbrev pub over : State → Bool → Jobs → State
over s t js = record s { tight = t; jobs = js }

-- what jobs do their work on, without those that squeeze
abbrev plain : jobs.State → jobs.State
plain s = record s { tight = false; jobs = lasting_jobs s.jobs }

-- work on other jobs comes to the same but for those that squeeze
pub same_work : (base after : jobs.State) (u t : Bool) (first second : Jobs) → AreAlike first second → after ≡ record base { tight = u; jobs = first } → plain after ≡ plain (record base { tight = t; jobs = second })
same_work base after u t first second same is = ap plain is ∙ ap (λ (l : Jobs). record base { tight = false; jobs = l }) same

pub worked : (one one' : State) (t : Bool) (js : Jobs) (after other : jobs.State) → plain after ≡ plain other → one' ≡ with_work one after → IsAlike one' (with_work (over one t js) other)
worked one one' t js after other same is = ap without_squeezes is ∙ ap (with_work one) same

-- two states may answer the same, and the second goes on to one that is the same but for its squeezing jobs
abbrev pub Follows : State → Entry → Answer → State → Type 0
Follows two e answer one' = (two' : State) × MayAnswer two e answer two' × IsAlike one' two'

-- ## The console

pub shown : (one one' : State) (t : Bool) (js : Jobs) (it : ConsoleEntry) (reply : Reply) → AreAlike one.jobs js → ConsoleMayReply one it reply one' → Follows (over one t js) (entry.Console it) (Ok reply) one'
shown one one' t js it reply same step = (over one' t js, (step.0, step.1, ap (λ (s : State). over s t js) step.2), alike one' t js (sym same ∙ sym (ap (λ (s : State). lasting_jobs s.jobs) step.2)))

-- ## Refusals

pub put_refused : (one : State) (t : Bool) (js : Jobs) (name : ℕ) (words : List ℕ) (why : FileFault) → AreAlike one.jobs js → speaks_of_room (Err (fault.File why)) ≡ false → PutRefused (job_state one) name words why → PutRefused (job_state (over one t js)) name words why
put_refused one t js name words file.NotFound same room refused = absurd refused
put_refused one t js name words (file.NoRoom n) same room refused = absurd (true≢false room)
put_refused one t js name words file.DirectoryFull same room refused = absurd (true≢false room)
put_refused one t js name words (file.Busy n) same room refused = (refused.0, same_held one.jobs js name true same refused.1)
put_refused one t js name words file.BadName same room refused = absurd refused
put_refused one t js name words file.TooLong same room refused = absurd refused
put_refused one t js name words file.TentativeOpen same room refused = absurd refused
put_refused one t js name words file.Device same room refused = absurd refused
put_refused one t js name words file.Stopped same room refused = absurd refused
put_refused one t js name words file.Memory same room refused = absurd refused
put_refused one t js name words file.NothingWritten same room refused = absurd refused

pub delete_refused : (one : State) (t : Bool) (js : Jobs) (name : ℕ) (why : FileFault) → AreAlike one.jobs js → speaks_of_room (Err (fault.File why)) ≡ false → DeleteRefused (job_state one) name why → DeleteRefused (job_state (over one t js)) name why
delete_refused one t js name file.NotFound same room refused = refused
delete_refused one t js name (file.NoRoom n) same room refused = absurd (true≢false room)
delete_refused one t js name file.DirectoryFull same room refused = absurd (true≢false room)
delete_refused one t js name (file.Busy n) same room refused = (refused.0, refused.1, same_held one.jobs js name true same refused.2)
delete_refused one t js name file.BadName same room refused = absurd refused
delete_refused one t js name file.TooLong same room refused = absurd refused
delete_refused one t js name file.TentativeOpen same room refused = absurd refused
delete_refused one t js name file.Device same room refused = absurd refused
delete_refused one t js name file.Stopped same room refused = absurd refused
delete_refused one t js name file.Memory same room refused = absurd refused
delete_refused one t js name file.NothingWritten same room refused = absurd refused

pub same_number : (one : State) (t : Bool) (js : Jobs) → least_free one.jobs ≡ least_free js → (number : ℕ) × (least_free one.jobs ≡ Some number) → (number : ℕ) × (least_free js ≡ Some number)
same_number one t js free number = (number.0, sym free ∙ number.1)

busy : (one : State) (t : Bool) (js : Jobs) (to : ℕ) (from : List ℕ) → AreAlike one.jobs js → IsBusy (job_state one) to from → IsBusy (job_state (over one t js)) to from
busy one t js to from same (inl held) = inl (same_held one.jobs js to true same held)
busy one t js to from same (inr among) = inr among

pub assemble_refused : (one : State) (t : Bool) (js : Jobs) (to : ℕ) (from : List ℕ) (why : JobFault) → AreAlike one.jobs js → least_free one.jobs ≡ least_free js → AssembleStarts (job_state one) to from (Err why) (job_state one) → AssembleStarts (job_state (over one t js)) to from (Err why) (job_state (over one t js))
assemble_refused one t js to from job.TooManyJobs same free starts = (sym free ∙ starts.0, refl)
assemble_refused one t js to from job.Memory same free starts = (same_number one t js free starts.0, refl)
assemble_refused one t js to from job.NoJob same free starts = absurd starts
assemble_refused one t js to from (job.Asm why) same free starts = absurd starts
assemble_refused one t js to from (job.Tape why) same free starts = absurd starts
assemble_refused one t js to from (job.File file.NotFound) same free starts = (same_number one t js free starts.0, starts.1, refl)
assemble_refused one t js to from (job.File (file.NoRoom n)) same free starts = absurd starts
assemble_refused one t js to from (job.File file.DirectoryFull) same free starts = absurd starts
assemble_refused one t js to from (job.File (file.Busy n)) same free starts = (same_number one t js free starts.0, starts.1, starts.2, busy one t js to from same starts.3, refl)
assemble_refused one t js to from (job.File file.BadName) same free starts = absurd starts
assemble_refused one t js to from (job.File file.TooLong) same free starts = absurd starts
assemble_refused one t js to from (job.File file.TentativeOpen) same free starts = absurd starts
assemble_refused one t js to from (job.File file.Device) same free starts = absurd starts
assemble_refused one t js to from (job.File file.Stopped) same free starts = absurd starts
assemble_refused one t js to from (job.File file.Memory) same free starts = absurd starts
assemble_refused one t js to from (job.File file.NothingWritten) same free starts = absurd starts

pub load_refused : (one : State) (t : Bool) (js : Jobs) (from : ℕ) (why : JobFault) → least_free one.jobs ≡ least_free js → LoadStarts (job_state one) from (Err why) (job_state one) → LoadStarts (job_state (over one t js)) from (Err why) (job_state (over one t js))
load_refused one t js from job.TooManyJobs free starts = (sym free ∙ starts.0, refl)
load_refused one t js from job.Memory free starts = (same_number one t js free starts.0, starts.1, refl)
load_refused one t js from job.NoJob free starts = absurd starts
load_refused one t js from (job.Asm why) free starts = absurd starts
load_refused one t js from (job.Tape why) free starts = absurd starts
load_refused one t js from (job.File file.NotFound) free starts = (same_number one t js free starts.0, starts.1, refl)
load_refused one t js from (job.File (file.NoRoom n)) free starts = absurd starts
load_refused one t js from (job.File file.DirectoryFull) free starts = absurd starts
load_refused one t js from (job.File (file.Busy n)) free starts = absurd starts
load_refused one t js from (job.File file.BadName) free starts = absurd starts
load_refused one t js from (job.File file.TooLong) free starts = absurd starts
load_refused one t js from (job.File file.TentativeOpen) free starts = absurd starts
load_refused one t js from (job.File file.Device) free starts = absurd starts
load_refused one t js from (job.File file.Stopped) free starts = absurd starts
load_refused one t js from (job.File file.Memory) free starts = absurd starts
load_refused one t js from (job.File file.NothingWritten) free starts = absurd starts

-- ## Turns

-- a turn over other jobs
abbrev TurnFollows : State → State → ℕ → Option Job → turns.Answer → jobs.State → Type 0
TurnFollows one two number it answer after = (other : jobs.State) × JobTurn (job_state two) number it answer other × (plain after ≡ plain other)

-- a turn's answer speaks of no room
abbrev is_of_room : turns.Answer → Bool
is_of_room (Ok turned) = false
is_of_room (Err why) = speaks_of_room (Err (fault_of_job why))

pub has_put : (one : State) (t : Bool) (js : Jobs) (name : ℕ) (words : List ℕ) (first second : Jobs) (after : jobs.State) → AreAlike one.jobs js → AreAlike first second → HasPut (job_state one) name words first after
    → (other : jobs.State) × HasPut (job_state (over one t js)) name words second other × (plain after ≡ plain other)
has_put one t js name words first second after same jobs put = (
  record (job_state one) { files = insert one.files name (plain_file (job_state one) words); tight = t; jobs = with_disturbance second },
  record { free = same_held one.jobs js name false same put.free; tight = λ none tight. tight; others = refl },
  same_work (record (job_state one) { files = insert one.files name (plain_file (job_state one) words) }) after after.tight t (with_disturbance first) (with_disturbance second) (same_disturbed first second jobs) put.others,
)

turn_follows : (one : State) (t : Bool) (js : Jobs) (number : ℕ) (it : Option Job) (answer : turns.Answer) (after : jobs.State) → AreAlike one.jobs js → lasting_job it ≡ it → is_of_room answer ≡ false → JobTurn (job_state one) number it answer after → TurnFollows one (over one t js) number it answer after
turn_follows one t js number it answer after same lasting room turn = of_job it answer lasting room turn
  where
    -- the job is put back with a turn less, or taken away
    put : (j : Option Job) → after ≡ record (job_state one) { jobs = with_job number j one.jobs } → plain after ≡ plain (record (job_state (over one t js)) { jobs = with_job number j js })
    put j is = same_work (job_state one) after one.tight t (with_job number j one.jobs) (with_job number j js) (same_put number j one.jobs js same) is

    stays : after ≡ job_state one → plain after ≡ plain (job_state (over one t js))
    stays is = same_work (job_state one) after one.tight t one.jobs js same is

    of_none : (answer : turns.Answer) → JobTurn (job_state one) number None answer after → TurnFollows one (over one t js) number None answer after
    of_none (Ok turned) turn = absurd turn
    of_none (Err job.NoJob) turn = (job_state (over one t js), refl, stays turn)
    of_none (Err job.TooManyJobs) turn = absurd turn
    of_none (Err (job.File why)) turn = absurd turn
    of_none (Err (job.Asm why)) turn = absurd turn
    of_none (Err (job.Tape why)) turn = absurd turn
    of_none (Err job.Memory) turn = absurd turn

    assembles : (to : ℕ) (from : List ℕ) (left : ℕ) (answer : turns.Answer) → is_of_room answer ≡ false → JobTurn (job_state one) number (Some (assembling to from left)) answer after → TurnFollows one (over one t js) number (Some (assembling to from left)) answer after
    assembles to from left (Ok turned.Working) room turn = (_, (turn.0, record { more = turn.1.more; others = refl }), put (Some (assembling to from (left - 1))) turn.1.others)
    assembles to from left (Ok (turned.Assembled name blocks)) room turn =
        let done = has_put one t js to _ (with_job number None one.jobs) (with_job number None js) after same (same_put number None one.jobs js same) turn.3.put in
        (done.0, (turn.0, turn.1, turn.2, record { no_fault = turn.3.no_fault; means = turn.3.means; put = done.1 }), done.2)
    assembles to from left (Ok (turned.Loaded name)) room turn = absurd turn
    assembles to from left (Ok turned.Squeezed) room turn = absurd turn
    assembles to from left (Err (job.Asm why)) room turn = (_, (turn.0, turn.1, turn.2, refl), put None turn.3)
    assembles to from left (Err (job.File why)) room turn = (_, (turn.0, turn.1, put_refused one t js to _ why same room turn.2, refl), put None turn.3)
    assembles to from left (Err job.Memory) room turn = (job_state (over one t js), refl, stays turn)
    assembles to from left (Err (job.Tape why)) room turn = absurd turn
    assembles to from left (Err job.NoJob) room turn = absurd turn
    assembles to from left (Err job.TooManyJobs) room turn = absurd turn

    loads : (from : ℕ) (left : ℕ) (answer : turns.Answer) → JobTurn (job_state one) number (Some (loading from left)) answer after → TurnFollows one (over one t js) number (Some (loading from left)) answer after
    loads from left (Ok turned.Working) turn = (_, (turn.0, record { more = turn.1.more; others = refl }), put (Some (loading from (left - 1))) turn.1.others)
    loads from left (Ok (turned.Loaded name)) turn = (
      record (job_state (over one t js)) { core = after.core; jobs = with_job number None js },
      (turn.0, turn.1, record { laid = turn.2.laid; others = refl }),
      same_work (record (job_state one) { core = after.core }) after one.tight t (with_job number None one.jobs) (with_job number None js) (same_put number None one.jobs js same) turn.2.others,
    )
    loads from left (Ok (turned.Assembled name blocks)) turn = absurd turn
    loads from left (Ok turned.Squeezed) turn = absurd turn
    loads from left (Err (job.Tape why)) turn = (_, (turn.0, turn.1, refl), put None turn.2)
    loads from left (Err job.Memory) turn = (job_state (over one t js), refl, stays turn)
    loads from left (Err (job.Asm why)) turn = absurd turn
    loads from left (Err (job.File why)) turn = absurd turn
    loads from left (Err job.NoJob) turn = absurd turn
    loads from left (Err job.TooManyJobs) turn = absurd turn

    of_work : (w : Work) (left : ℕ) (answer : turns.Answer) → lasting_work w left ≡ Some (record { work = w; turns = left }) → is_of_room answer ≡ false → JobTurn (job_state one) number (Some (record { work = w; turns = left })) answer after → TurnFollows one (over one t js) number (Some (record { work = w; turns = left })) answer after
    of_work (Assembling to from) left answer lasting room turn = assembles to from left answer room turn
    of_work (Loading from) left answer lasting room turn = loads from left answer turn
    of_work (Squeezing clean) left answer lasting room turn = cc

    of_job : (it : Option Job) (answer : turns.Answer) → lasting_job it ≡ it → is_of_room answer ≡ false → JobTurn (job_state one) number it answer after → TurnFollows one (over one t js) number it answer after
    of_job None answer lasting room turn = of_none answer turn
    of_job (Some it) answer lasting room turn = of_work it.work it.turns answer lasting room turn

-- the turn of a number
pub number_follows : (one : State) (t : Bool) (js : Jobs) (number : ℕ) (answer : turns.Answer) (after : jobs.State) → AreAlike one.jobs js → JobIsApart (order.Turn number) one (over one t js) → is_of_room answer ≡ false → turns.Turns (job_state one) number answer after
    → (other : jobs.State) × turns.Turns (job_state (over one t js)) number answer other × (plain after ≡ plain other)
number_follows one t js number answer after same apart room turn =
    subst (λ (o : Option Job). TurnFollows one (over one t js) number o answer after) (same_job one.jobs js number same apart.0 apart.1) (turn_follows one t js number (job_of number one.jobs) answer after same apart.0 room turn)
