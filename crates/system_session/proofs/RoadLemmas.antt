-- What becomes of the files and of the console after an entry, and of a file that a job made, up to the load of it.
use Rattle.std.proofs.Common.{◌≡◌, ◌≢◌, ◌∙◌, ℕ, nat_eq, cond, unwrap_or, Bool, true, false, true≢false, Option, Some, None, List, [], ◌∷◌, slice_index, Ok, Err, refl, ap, sym, subst, arith}
use Rattle.std.specs.FinMap.{get, insert, remove, get-insert, get-remove}
use Rattle.std.specs.Ordering.{nat_cmp, eq_by_cmp}
use Rattle.std.proofs.lemmas.Bool.Decides.{nat_tests}
use Rattle.std.proofs.lemmas.Cmp.{nat_cmp_total}
use Rattle.char_pack.specs.Packing.{frames}
use Rattle.bin_tape.specs.Items.{Item, tape_map}
use Rattle.bin_tape.specs.Tape.{IsTape}
use Rattle.bin_tape.specs.Fault.{IsFault}
use Rattle.bin_tape.specs.declared.faults.TapeFault.{TapeFault}
use Rattle.core_load.specs.Load.{IsLoaded}
use Rattle.os8_dir.specs.Files.{Files, FileData}
use Rattle.pal_blocks.specs.Sources.{IsTapeOfSources, assembled_words, meaning_of}
use Rattle.volume_jobs.specs.Jobs.{Job, Work, Assembling, Loading, Squeezing, assembling, loading, job_of}
use Rattle.volume_jobs.specs.State as jobs
use Rattle.volume_jobs.specs.State.{plain_file, words_of, words_or, words_among}
use Rattle.volume_jobs.specs.Turns.{Turns, JobTurn, WorkTurn}
use Rattle.volume_jobs.specs.declared.faults.JobFault.{JobFault}
use Rattle.volume_jobs.specs.declared.faults.JobFault.TheVariants as job
use Rattle.volume_jobs.specs.declared.turned.Turned.{Turned}
use Rattle.volume_jobs.specs.declared.turned.Turned.TheVariants as turned
use Rattle.script8.specs.declared.entries.Entry.{Entry}
use Rattle.script8.specs.declared.entries.Entry.TheVariants as entry
use Rattle.script8.specs.declared.entries.FileEntry.{FileEntry}
use Rattle.script8.specs.declared.entries.FileEntry.TheVariants as filing
use Rattle.script8.specs.declared.entries.JobEntry.{JobEntry}
use Rattle.script8.specs.declared.entries.JobEntry.TheVariants as order
use Rattle.refusals.specs.declared.faults.SessionFault.{SessionFault}
use Rattle.refusals.specs.declared.faults.SessionFault.TheVariants as fault
use Rattle.script8.specs.declared.replies.Reply.{Reply}
use Rattle.script8.specs.declared.replies.Reply.TheVariants.{Line, Report}
use Rattle.script8.specs.declared.replies.Report.TheVariants as report
use Rattle.script8.specs.declared.replies.LineReply.{LineReply}
use Rattle.script8.specs.declared.replies.LineReply.TheVariants as line
use Rattle.system_session.specs.Road.{changes_file, is_loaded, NoneTells, OperatesConsole, ConsoleGoesOn, HasMadeFile, IsLaid, LoadsCore}
use Rattle.system_session.specs.State.{Console, State}
use Rattle.system_session.specs.System.{Answer, MayReply, FilesMayReply, JobsMayReply, Run, MayAnswer}
use Rattle.system_session.specs.Work.{job_state, with_core, with_work, turn_reply, fault_of_job}
use Rattle.system_session.proofs.RefusalLemmas.{refused_others}
use Rattle.system_session.proofs.ReplyLemmas.{stored_alone, deleted_alone, assembled_alone, loaded_alone, squeezed_alone}

-- ## Maps

tied : (a b : ℕ) → eq_by_cmp nat_cmp b a ≡ nat_eq a b
tied a b = grind (arith, nat_tests)

put_other : (m : Files) (name : ℕ) (h : FileData) (q : ℕ) → nat_eq name q ≡ false → get (insert m name h) q ≡ get m q
put_other m name h q other = get-insert nat_cmp_total m name h q ∙ ap (λ b. cond b (Some h) (get m q)) (tied name q ∙ other)

own : (a : ℕ) → nat_eq a a ≡ true
own a = grind (arith, nat_tests)

put_it : (m : Files) (name : ℕ) (h : FileData) → get (insert m name h) name ≡ Some h
put_it m name h = get-insert nat_cmp_total m name h name ∙ ap (λ b. cond b (Some h) (get m name)) (tied name name ∙ own name)

gone_other : (m : Files) (name q : ℕ) → nat_eq name q ≡ false → get (remove m name) q ≡ get m q
gone_other m name q other = get-remove nat_cmp_total m name q ∙ ap (λ b. cond b None (get m q)) (tied name q ∙ other)

-- ## Entries

-- What an entry with an answer leaves: the files that the answer doesn't tell of, and the console, but for core where a tape was
-- laid.
record LeavesAlone (e : Entry) (old : State) (answer : Answer) (new : State) : Type 0 where
  files : (name : ℕ) → changes_file name answer ≡ false → get new.files name ≡ get old.files name
  console : is_loaded answer ≡ false → OperatesConsole old.console e answer new.console

-- the same of work on files, core and jobs
record WorkLeaves (old : State) (answer : Answer) (after : jobs.State) : Type 0 where
  files : (name : ℕ) → changes_file name answer ≡ false → get after.files name ≡ get old.files name
  core : is_loaded answer ≡ false → after.core ≡ old.console.machine.core

worked : (e : Entry) (old new : State) (answer : Answer) (after : jobs.State) → (new.console ≡ old.console → OperatesConsole old.console e answer new.console) → WorkLeaves old answer after → new ≡ with_work old after → LeavesAlone e old answer new
worked e old new answer after away left is = record {
  files = λ name other. ap (λ (s : State). get s.files name) is ∙ left.files name other;
  console = λ other. away (ap (λ (s : State). s.console) is ∙ ap (with_core old.console) (left.core other));
}

-- only the jobs are others, and what is known of free blocks
of_jobs : (old : State) (answer : Answer) (after : jobs.State) (tight : Bool) (js : List (Option Job)) → after ≡ record (job_state old) { tight = tight; jobs = js } → WorkLeaves old answer after
of_jobs old answer after tight js is = record { files = λ name other. ap (λ (s : jobs.State). get s.files name) is; core = λ other. ap (λ (s : jobs.State). s.core) is }

-- files are others where the answer tells of them
of_files : (old : State) (answer : Answer) (after : jobs.State) (files : Files) (tight : Bool) (js : List (Option Job)) → ((name : ℕ) → changes_file name answer ≡ false → get files name ≡ get old.files name)
    → after ≡ record (job_state old) { files = files; tight = tight; jobs = js } → WorkLeaves old answer after
of_files old answer after files tight js others is = record { files = λ name other. ap (λ (s : jobs.State). get s.files name) is ∙ others name other; core = λ other. ap (λ (s : jobs.State). s.core) is }

turn_leaves : (old : State) (number : ℕ) (it : Option Job) (does : Turned) (after : jobs.State) → JobTurn (job_state old) number it (Ok does) after → WorkLeaves old (Ok (Line (turn_reply number does))) after
turn_leaves old number it does after turn = of_job it turn
  where
    of_work : (w : Work) (left : ℕ) (does : Turned) → WorkTurn (job_state old) number w left (Ok does) after → WorkLeaves old (Ok (Line (turn_reply number does))) after
    of_work (Assembling to from) left turned.Working turn = of_jobs old _ after _ _ turn.1.others
    of_work (Assembling to from) left (turned.Assembled name blocks) turn = of_files old _ after _ _ _ (λ q other. put_other old.files to _ q (subst (λ n. nat_eq n q ≡ false) turn.0 other)) turn.3.put.others
    of_work (Assembling to from) left (turned.Loaded name) turn = absurd turn
    of_work (Assembling to from) left turned.Squeezed turn = absurd turn
    of_work (Loading from) left turned.Working turn = of_jobs old _ after _ _ turn.1.others
    of_work (Loading from) left (turned.Loaded name) turn = record { files = λ q other. ap (λ (s : jobs.State). get s.files q) turn.2.others; core = λ other. absurd (true≢false other) }
    of_work (Loading from) left (turned.Assembled name blocks) turn = absurd turn
    of_work (Loading from) left turned.Squeezed turn = absurd turn
    of_work (Squeezing clean) left turned.Working turn = of_jobs old _ after _ _ turn.2.others
    of_work (Squeezing clean) left turned.Squeezed turn = of_jobs old _ after _ _ turn.2.others
    of_work (Squeezing clean) left (turned.Assembled name blocks) turn = absurd turn
    of_work (Squeezing clean) left (turned.Loaded name) turn = absurd turn

    of_job : (it : Option Job) → JobTurn (job_state old) number it (Ok does) after → WorkLeaves old (Ok (Line (turn_reply number does))) after
    of_job None turn = absurd turn
    of_job (Some it) turn = of_work it.work it.turns does turn

files_leave : (it : FileEntry) (old new : State) (reply : Reply) → FilesMayReply old it reply new → LeavesAlone (entry.Files it) old (Ok reply) new
files_leave (filing.Store name text) old new reply done = stored_alone old new name text (λ (r : Reply). LeavesAlone (entry.Files (filing.Store name text)) old (Ok r) new) (λ other blocks done.
    worked (entry.Files (filing.Store name text)) old new _ done.2.0 (λ same. same) (of_files old _ done.2.0 _ _ _ (λ q away. put_other old.files other _ q away) done.2.1.1.others) done.2.2) reply done
files_leave (filing.Delete name) old new reply done = deleted_alone old new name (λ (r : Reply). LeavesAlone (entry.Files (filing.Delete name)) old (Ok r) new) (λ other done.
    worked (entry.Files (filing.Delete name)) old new _ done.1.0 (λ same. same) (of_files old _ done.1.0 _ _ _ (λ q away. gone_other old.files other q away) done.1.1.others) done.1.2) reply done
files_leave filing.Direct old new (Report (report.Direct lengths free)) done = record { files = λ name other. ap (λ (s : State). get s.files name) done.2; console = λ other. ap (λ (s : State). s.console) done.2 }
files_leave filing.Direct old new (Report (report.Registers text)) done = absurd done
files_leave filing.Direct old new (Report (report.Printed characters)) done = absurd done
files_leave filing.Direct old new (Line it) done = absurd done

jobs_leave : (it : JobEntry) (old new : State) (reply : Reply) → JobsMayReply old it reply new → LeavesAlone (entry.Jobs it) old (Ok reply) new
jobs_leave (order.Assemble to from) old new reply done = assembled_alone old new to from (λ (r : Reply). LeavesAlone (entry.Jobs (order.Assemble to from)) old (Ok r) new) (λ number done.
    worked (entry.Jobs (order.Assemble to from)) old new _ done.4.0 (λ same. same) (of_jobs old _ done.4.0 _ _ done.4.1.2.others) done.4.2) reply done
jobs_leave (order.Load name) old new reply done = loaded_alone old new name (λ (r : Reply). LeavesAlone (entry.Jobs (order.Load name)) old (Ok r) new) (λ number done.
    worked (entry.Jobs (order.Load name)) old new _ done.2.0 (λ same. same) (of_jobs old _ done.2.0 _ _ done.2.1.1.others) done.2.2) reply done
jobs_leave order.Squeeze old new reply done = squeezed_alone old new (λ (r : Reply). LeavesAlone (entry.Jobs order.Squeeze) old (Ok r) new) (λ number done.
    worked (entry.Jobs order.Squeeze) old new _ done.0 (λ same. same) (of_jobs old _ done.0 _ _ done.1.others) done.2) reply done
jobs_leave (order.Turn number) old new (Line it) done = subst (λ (s : LineReply). LeavesAlone (entry.Jobs (order.Turn number)) old (Ok (Line s)) new) (sym done.1)
    (worked (entry.Jobs (order.Turn number)) old new _ done.2.0 (λ same. same) (turn_leaves old number (job_of number old.jobs) done.0 done.2.0 done.2.1) done.2.2)
jobs_leave (order.Turn number) old new (Report report) done = absurd done

reply_leaves : (e : Entry) (old new : State) (reply : Reply) → MayReply old e reply new → LeavesAlone e old (Ok reply) new
reply_leaves (entry.Files it) old new reply done = files_leave it old new reply done
reply_leaves (entry.Jobs it) old new reply done = jobs_leave it old new reply done
reply_leaves (entry.Console it) old new reply done = record { files = λ name other. ap (λ (s : State). get s.files name) done.2; console = λ other. done.1 }

still : (e : Entry) (why : SessionFault) (old new : Console) → new ≡ old → OperatesConsole old e (Err why) new
still (entry.Files it) why old new is = is
still (entry.Jobs it) why old new is = is
still (entry.Console it) why old new is = is

step_leaves : (e : Entry) (old new : State) (answer : Answer) → MayAnswer old e answer new → LeavesAlone e old answer new
step_leaves e old new (Ok reply) step = reply_leaves e old new reply step
step_leaves e old new (Err why) step = record {
  files = λ name other. ap (λ (s : State). get s.files name) (refused_others old new e why step);
  console = λ other. still e why old.console new.console (ap (λ (s : State). s.console) (refused_others old new e why step));
}

-- ## Runs

pub file_kept : (old new : State) (name : ℕ) (entries : List Entry) (answers : List Answer) (stopped : Bool) → Run old entries answers stopped new → NoneTells (changes_file name) answers → get new.files name ≡ get old.files name
file_kept old new name [] [] stopped run none = ap (λ (s : State). get s.files name) run.1
file_kept old new name (e ∷ entries) [] stopped run none = ap (λ (s : State). get s.files name) run.2
file_kept old new name [] (answer ∷ answers) stopped run none = absurd run
file_kept old new name (e ∷ entries) (answer ∷ answers) stopped run none =
    file_kept run.0 new name entries answers stopped run.3 none.1 ∙ (step_leaves e old run.0 answer run.1).files name none.0

pub console_goes : (old new : State) (entries : List Entry) (answers : List Answer) (stopped : Bool) → Run old entries answers stopped new → NoneTells is_loaded answers → ConsoleGoesOn old.console entries answers new.console
console_goes old new [] [] stopped run none = ap (λ (s : State). s.console) run.1
console_goes old new (e ∷ entries) [] stopped run none = ap (λ (s : State). s.console) run.2
console_goes old new [] (answer ∷ answers) stopped run none = absurd run
console_goes old new (e ∷ entries) (answer ∷ answers) stopped run none =
    (run.0.console, (step_leaves e old run.0 answer run.1).console none.0, console_goes run.0 new entries answers stopped run.3 none.1)

-- ## The road

-- the laws of tapes that are used
abbrev pub OneReading : Type 0
OneReading = (frames : List ℕ) (a b : List Item) → IsTape frames a → IsTape frames b → a ≡ b

abbrev pub NoFault : Type 0
NoFault = (frames : List ℕ) (items : List Item) (fault : TapeFault) → IsTape frames items → IsFault frames fault → ⊥

-- the file of a name is the tape of sources
abbrev IsMade : ℕ → List (List ℕ) → State → Type 0
IsMade name sources s = IsTapeOfSources sources (words_of (job_state s) name)

made : (number name : ℕ) (sources : List (List ℕ)) (old new : State) → HasMadeFile number name sources old new → IsMade name sources new
made number name sources old new has = of_turned has.step.0 has.step.1 (subst (λ (o : Option Job). JobTurn (job_state old) number o (Ok has.step.0) has.step.2.0) has.job has.step.2.1)
  where
    after : jobs.State
    after = has.step.2.0

    of_turned : (turned : Turned) → line.Assembled number name has.blocks ≡ turn_reply number turned → JobTurn (job_state old) number (Some (assembling name has.from has.left)) (Ok turned) after → IsMade name sources new
    of_turned turned.Working is turn = cc
    of_turned (turned.Loaded other) is turn = cc
    of_turned turned.Squeezed is turn = cc
    of_turned (turned.Assembled other blocks) is turn =
        subst (IsTapeOfSources sources) (sym words) (subst (λ l. IsTapeOfSources l (assembled_words l)) (sym has.words) turn.3.means)
      where
        words : words_of (job_state new) name ≡ assembled_words sources
        words = ap (λ (s : State). words_or (get s.files name)) has.step.2.2 ∙ ap (λ (s : jobs.State). words_or (get s.files name)) turn.3.put.others ∙ ap words_or (put_it old.files name _) ∙ ap assembled_words (sym has.words)

arrives : OneReading → NoFault → (old new : State) (loader name left : ℕ) (sources : List (List ℕ)) (answer : Answer) → IsMade name sources old → job_of loader old.jobs ≡ Some (loading name left)
    → MayAnswer old (entry.Jobs (order.Turn loader)) answer new → LoadsCore sources old answer new
arrives one_reading no_fault old new loader name left sources answer tape is step = record {
  no_fault = without;
  core = ended.0;
  laid = λ told. (ended.1 told).0;
  goes_on = λ told last entries answers stopped run none. subst (λ (c : Console). ConsoleGoesOn c entries answers last.console) (ended.1 told).1 (console_goes new last entries answers stopped run none);
}
  where
    turn_of_it : (t : Turned) (after : jobs.State) → Turns (job_state old) loader (Ok t) after → JobTurn (job_state old) loader (Some (loading name left)) (Ok t) after
    turn_of_it t after turn = subst (λ (o : Option Job). JobTurn (job_state old) loader o (Ok t) after) is turn

    fault_of_it : (why : JobFault) (after : jobs.State) → Turns (job_state old) loader (Err why) after → JobTurn (job_state old) loader (Some (loading name left)) (Err why) after
    fault_of_it why after turn = subst (λ (o : Option Job). JobTurn (job_state old) loader o (Err why) after) is turn

    laid : (core : List ℕ) → IsLoaded (frames (words_of (job_state old) name)) old.console.machine.core core → IsLaid sources old.console.machine.core core
    laid core loaded = record {
      same_size = loaded.overlaid.same_size;
      cells = λ cell within. loaded.overlaid.cells cell within ∙ ap (λ w. unwrap_or w (slice_index old.console.machine.core cell)) (means cell);
    }
      where
        means : (cell : ℕ) → tape_map loaded.items cell ≡ meaning_of sources cell
        means cell = ap (λ items. tape_map items cell) (one_reading (frames (words_of (job_state old) name)) loaded.items tape.items loaded.is_tape tape.is_tape) ∙ tape.map cell

    not_fault : (f : TapeFault) (why : JobFault) (after : jobs.State) → fault.Tape f ≡ fault_of_job why → JobTurn (job_state old) loader (Some (loading name left)) (Err why) after → ⊥
    not_fault f job.NoJob after this turn = cc
    not_fault f job.TooManyJobs after this turn = cc
    not_fault f (job.File why) after this turn = cc
    not_fault f (job.Asm why) after this turn = cc
    not_fault f job.Memory after this turn = cc
    not_fault f (job.Tape other) after this turn = no_fault (frames (words_of (job_state old) name)) tape.items other tape.is_tape turn.1.whole

    not_tape : (f : TapeFault) → MayAnswer old (entry.Jobs (order.Turn loader)) (Err (fault.Tape f)) new → ⊥
    not_tape f step = not_fault f step.0.0 step.0.2.0 step.0.1 (fault_of_it step.0.0 step.0.2.0 step.0.2.1)

    without : (f : TapeFault) → answer ≢ Err (fault.Tape f)
    without f same = not_tape f (subst (λ (a : Answer). MayAnswer old (entry.Jobs (order.Turn loader)) a new) same step)

    -- what holds where the answer tells of a load
    AtEnd : Answer → List ℕ → Type 0
    AtEnd a core = is_loaded a ≡ true → IsLaid sources old.console.machine.core core × (new.console ≡ with_core old.console core)

    other : (a : Answer) → is_loaded a ≡ false → (core : List ℕ) × AtEnd a core
    other a away = (old.console.machine.core, λ told. absurd (true≢false (sym told ∙ away)))

    of_turned : (t : Turned) (after : jobs.State) → JobTurn (job_state old) loader (Some (loading name left)) (Ok t) after → new ≡ with_work old after → (core : List ℕ) × AtEnd (Ok (Line (turn_reply loader t))) core
    of_turned turned.Working after turn same = other (Ok (Line (line.Working loader))) refl
    of_turned (turned.Assembled n blocks) after turn same = absurd turn
    of_turned (turned.Loaded n) after turn same = (after.core, λ told. (laid after.core turn.2.laid, ap (λ (s : State). s.console) same))
    of_turned turned.Squeezed after turn same = absurd turn

    of_answer : (a : Answer) → MayAnswer old (entry.Jobs (order.Turn loader)) a new → (core : List ℕ) × AtEnd a core
    of_answer (Ok (Line it)) step = subst (λ (s : LineReply). (core : List ℕ) × AtEnd (Ok (Line s)) core) (sym step.1) (of_turned step.0 step.2.0 (turn_of_it step.0 step.2.0 step.2.1) step.2.2)
    of_answer (Ok (Report report)) step = absurd step
    of_answer (Err why) step = other (Err why) refl

    ended : (core : List ℕ) × AtEnd answer core
    ended = of_answer answer step

pub leads : OneReading → NoFault → (one two three four : State) (maker loader name left : ℕ) (sources : List (List ℕ)) (entries : List Entry) (answers : List Answer) (stopped : Bool) (answer : Answer)
    → HasMadeFile maker name sources one two → Run two entries answers stopped three → NoneTells (changes_file name) answers → job_of loader three.jobs ≡ Some (loading name left) → MayAnswer three (entry.Jobs (order.Turn loader)) answer four
    → LoadsCore sources three answer four
leads one_reading no_fault one two three four maker loader name left sources entries answers stopped answer has run none is step =
    arrives one_reading no_fault three four loader name left sources answer (subst (λ o. IsTapeOfSources sources (words_or o)) (sym (file_kept two three name entries answers stopped run none)) (made maker name sources one two has)) is step
