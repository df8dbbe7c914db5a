-- What the entries of jobs come to.
use Rattle.std.proofs.Common.{Result, ◌≡◌, ◌≢◌, ◌⊎◌, inl, inr, arith, ℕ, zero, suc, Bool, true, false, List, [], ◌∷◌, ◌++◌, get_or, slice_set, length, ◌<◌, ◌≤◌, true≢false, IsErrOf, Option, Some, None, Ok, Err, refl, ap, sym, subst, ◌∙◌}
use Rattle.os8_dir.specs.Names.{parsed_name}
use Rattle.os8_files.specs.Mounted.{MountState}
use Rattle.os8_dir.specs.declared.file_faults.FileFault.TheVariants as file
use Rattle.volume_jobs.specs.Calls as calls
use Rattle.volume_jobs.specs.Calls.{LeavesJobs, NumberTurnsOver, Outlives, TakesTurn, TurnsOver, StartsOver, StartsAssembling, StartsLoading, StartsSqueezing}
use Rattle.volume_jobs.specs.Jobs.{Job, Work, Assembling, Loading, Squeezing, IsLowest, IsTaken, job_of, with_job, lowest_job, turns_left}
use Rattle.volume_jobs.specs.Settled.{plain_jobs, state_over}
use Rattle.volume_jobs.specs.Starts.{StartResult, AssembleStarts, LoadStarts, SqueezeStarts}
use Rattle.volume_jobs.specs.State as jobs
use Rattle.volume_jobs.specs.Turns as turns
use Rattle.volume_jobs.specs.Turns.{Turns, JobTurn, WorkTurn}
use Rattle.volume_jobs.specs.declared.faults.JobFault.{JobFault}
use Rattle.volume_jobs.specs.declared.faults.JobFault.TheVariants as job
use Rattle.volume_jobs.specs.declared.kinds.Job as kept
use Rattle.volume_jobs.specs.declared.turned.Turned.{Turned}
use Rattle.script8.specs.Replies.{job_of_turn}
use Rattle.script8.specs.declared.entries.Entry.{Entry}
use Rattle.script8.specs.declared.entries.Entry.TheVariants as entry
use Rattle.script8.specs.declared.entries.JobEntry.{JobEntry}
use Rattle.script8.specs.declared.entries.JobEntry.TheVariants as order
use Rattle.refusals.specs.declared.faults.SessionFault.TheVariants as fault
use Rattle.script8.specs.declared.replies.Reply.TheVariants.{Line}
use Rattle.script8.specs.declared.replies.LineReply.TheVariants as line
use Rattle.system_session.specs.Files.{name_before, parsed_names}
use Rattle.system_session.specs.Refusals.{MayRefuse, after_refusal, jobs_without}
use Rattle.system_session.specs.Failing.{JobsStopFor}
use Rattle.system_session.specs.Session.{SessionView, state_of, NoCallFailed, IsReply, TellsBlockCalls}
use Rattle.system_session.specs.SessionSteps.{DoesEntry, job_reply}
use Rattle.system_session.specs.State.{State}
use Rattle.system_session.specs.System.{Answer, MayReply, MayAnswer}
use Rattle.system_session.specs.Work.{job_state, with_core, with_work, turn_reply, fault_of_job}
use Rattle.system_session.proofs.DoesLemmas.{IsSteady, replied, undone, after_same, stopped}
use Rattle.system_session.proofs.SessionLemmas.{over_with}

bool_cases : (b : Bool) → (b ≡ true) ⊎ (b ≡ false)
bool_cases true = inl refl
bool_cases false = inr refl

-- what is seen where the volume is another, the jobs, and core
abbrev pub over_work : SessionView → MountState → List (Option Job) → List ℕ → SessionView
over_work s v js core = record { volume = v; jobs = js; console = with_core s.console core }

-- ## Turns that end a job, or are not taken

-- the jobs without one that isn't there
unchanged : (place : ℕ) (js : List (Option Job)) → get_or js place None ≡ None → slice_set js place None ≡ js
unchanged place [] none = refl
unchanged zero (j ∷ js) none = ap (λ (o : Option Job). o ∷ js) (sym none)
unchanged (suc place) (j ∷ js) none = ap (λ l. j ∷ l) (unchanged place js none)

without_none : (number : ℕ) (js : List (Option Job)) → job_of number js ≡ None → with_job number None js ≡ js
without_none zero js none = refl
without_none (suc place) js none = unchanged place js none

-- a turn that is refused ends its job, and changes nothing else
ends : (old after : jobs.State) (number : ℕ) (why : JobFault) → why ≢ job.Memory → Turns old number (Err why) after → after ≡ record old { jobs = with_job number None old.jobs }
ends old after number why other turn = of_job (job_of number old.jobs) refl turn
  where
    of_work : (w : Work) (left : ℕ) (why : JobFault) → why ≢ job.Memory → WorkTurn old number w left (Err why) after → after ≡ record old { jobs = with_job number None old.jobs }
    of_work w left job.Memory other turn = absurd (other refl)
    of_work (Assembling to from) left (job.Asm why) other turn = turn.3
    of_work (Assembling to from) left (job.File why) other turn = turn.3
    of_work (Assembling to from) left (job.Tape why) other turn = absurd turn
    of_work (Assembling to from) left job.NoJob other turn = absurd turn
    of_work (Assembling to from) left job.TooManyJobs other turn = absurd turn
    of_work (Loading from) left (job.Tape why) other turn = turn.2
    of_work (Loading from) left (job.Asm why) other turn = absurd turn
    of_work (Loading from) left (job.File why) other turn = absurd turn
    of_work (Loading from) left job.NoJob other turn = absurd turn
    of_work (Loading from) left job.TooManyJobs other turn = absurd turn
    of_work (Squeezing clean) left (job.File file.DirectoryFull) other turn = turn.2
    of_work (Squeezing clean) left (job.File file.NotFound) other turn = absurd turn
    of_work (Squeezing clean) left (job.File (file.NoRoom n)) other turn = absurd turn
    of_work (Squeezing clean) left (job.File (file.Busy n)) other turn = absurd turn
    of_work (Squeezing clean) left (job.File file.BadName) other turn = absurd turn
    of_work (Squeezing clean) left (job.File file.TooLong) other turn = absurd turn
    of_work (Squeezing clean) left (job.File file.TentativeOpen) other turn = absurd turn
    of_work (Squeezing clean) left (job.File file.Device) other turn = absurd turn
    of_work (Squeezing clean) left (job.File file.Stopped) other turn = absurd turn
    of_work (Squeezing clean) left (job.File file.Memory) other turn = absurd turn
    of_work (Squeezing clean) left (job.File file.NothingWritten) other turn = absurd turn
    of_work (Squeezing clean) left (job.Asm why) other turn = absurd turn
    of_work (Squeezing clean) left (job.Tape why) other turn = absurd turn
    of_work (Squeezing clean) left job.NoJob other turn = absurd turn
    of_work (Squeezing clean) left job.TooManyJobs other turn = absurd turn

    of_none : (why : JobFault) → job_of number old.jobs ≡ None → JobTurn old number None (Err why) after → after ≡ record old { jobs = with_job number None old.jobs }
    of_none job.NoJob none turn = turn ∙ ap (λ (l : List (Option Job)). record old { jobs = l }) (sym (without_none number old.jobs none))
    of_none job.TooManyJobs none turn = absurd turn
    of_none (job.File why) none turn = absurd turn
    of_none (job.Asm why) none turn = absurd turn
    of_none (job.Tape why) none turn = absurd turn
    of_none job.Memory none turn = absurd turn

    of_job : (it : Option Job) → job_of number old.jobs ≡ it → JobTurn old number it (Err why) after → after ≡ record old { jobs = with_job number None old.jobs }
    of_job None is turn = of_none why is turn
    of_job (Some it) is turn = of_work it.work it.turns why other turn

-- want of memory comes only where there is a job, and changes nothing
lacks : (old after : jobs.State) (number : ℕ) → Turns old number (Err job.Memory) after → ((it : Job) × (job_of number old.jobs ≡ Some it)) × (after ≡ old)
lacks old after number turn = of_job (job_of number old.jobs) refl turn
  where
    of_work : (w : Work) (left : ℕ) → WorkTurn old number w left (Err job.Memory) after → after ≡ old
    of_work (Assembling to from) left turn = turn
    of_work (Loading from) left turn = turn
    of_work (Squeezing clean) left turn = turn

    of_job : (it : Option Job) → job_of number old.jobs ≡ it → JobTurn old number it (Err job.Memory) after → ((it : Job) × (job_of number old.jobs ≡ Some it)) × (after ≡ old)
    of_job None is turn = absurd turn
    of_job (Some it) is turn = ((it, is), of_work it.work it.turns turn)

-- ## Answers

refused_step : (e : Entry) (old new : State) (why : JobFault) → why ≢ job.Memory → MayRefuse old e (fault_of_job why) → new ≡ after_refusal old e → MayAnswer old e (Err (fault_of_job why)) new
refused_step e old new job.NoJob other may after = (may, after)
refused_step e old new job.TooManyJobs other may after = (may, after)
refused_step e old new (job.File why) other may after = (may, after)
refused_step e old new (job.Asm why) other may after = (may, after)
refused_step e old new (job.Tape why) other may after = (may, after)
refused_step e old new job.Memory other may after = absurd (other refl)

is_reply : (why : JobFault) → IsReply (Err (fault_of_job why))
is_reply job.NoJob = tt
is_reply job.TooManyJobs = tt
is_reply (job.File why) = tt
is_reply (job.Asm why) = tt
is_reply (job.Tape why) = tt
is_reply job.Memory = tt

abbrev answer_of : JobFault → Answer
answer_of why = Err (fault_of_job why)

err_is : (why : JobFault) → why ≢ job.Memory → answer_of why ≢ Err fault.Memory
err_is job.NoJob other is = cc
err_is job.TooManyJobs other is = cc
err_is (job.File why) other is = cc
err_is (job.Asm why) other is = cc
err_is (job.Tape why) other is = cc
err_is job.Memory other is = absurd (other refl)

-- ## Turns

-- a turn over what is seen, whose jobs are those of the table
abbrev turned_on : SessionView → List (Option kept.Job) → ℕ → turns.Answer → MountState → List ℕ → List (Option kept.Job) → Type 0
turned_on s js number answer v core js' = TakesTurn s.volume s.console.machine.core js number answer v core js'

-- the turn over the state of the machine
turns_on : (s : SessionView) (js : List (Option kept.Job)) (number : ℕ) (answer : turns.Answer) (after : jobs.State) → s.jobs ≡ plain_jobs js → Turns (state_over s.volume s.console.machine.core (plain_jobs js)) number answer after → Turns (job_state (state_of s)) number answer after
turns_on s js number answer after is turn = subst (λ (l : List (Option Job)). Turns (state_over s.volume s.console.machine.core l) number answer after) (sym is) turn

abbrev ok_turn : Turned → turns.Answer
ok_turn turned = Ok turned

abbrev refused_turn : JobFault → turns.Answer
refused_turn why = Err why

still : (s : SessionView) (v : MountState) → calls.NoCallFailed s.volume v → v.stopped ≡ false → IsSteady s.volume v
still s v quiet running = record { stopped = running ∙ sym quiet.running; reads = quiet.reads; writes = quiet.writes }

-- an answer to a turn of a number with this job
abbrev DoesTurn : SessionView → MountState → List ℕ → List (Option kept.Job) → ℕ → Answer → Type 0
DoesTurn s v core js' number answer = DoesEntry (entry.Jobs (order.Turn number)) s answer (over_work s v (plain_jobs js') core)

ok_not_err : (turned : Turned) (why : JobFault) → ok_turn turned ≡ Err why → ⊥
ok_not_err turned why is = cc

pub turn_done : (s : SessionView) (v : MountState) (core : List ℕ) (js js' : List (Option kept.Job)) (number : ℕ) (turned : Turned) → s.jobs ≡ plain_jobs js → turned_on s js number (Ok turned) v core js' → DoesTurn s v core js' number (Ok (Line (turn_reply number turned)))
turn_done s v core js js' number turned is has = of_job (job_of number (plain_jobs js)) has.volume
  where
    of_job : (it : Option Job) → NumberTurnsOver it s.volume (Ok turned) v → DoesTurn s v core js' number (Ok (Line (turn_reply number turned)))
    of_job None over = absurd (ok_not_err turned _ over.0)
    of_job (Some it) over = replied _ _ _ _ over.tells.running (still s v over.tells (over.running over.tells)) (turned, refl, (_, turns_on s js number _ _ is (has.step over.tells), refl))

turn_undone : (s : SessionView) (v : MountState) (core : List ℕ) (js js' : List (Option kept.Job)) (number : ℕ) → s.jobs ≡ plain_jobs js → turned_on s js number (Err job.Memory) v core js' → TurnsOver s.volume (Err job.Memory) v → DoesTurn s v core js' number (Err fault.Memory)
turn_undone s v core js js' number is has over = undone _ _ _ (λ halted. absurd (true≢false (sym halted ∙ over.tells.running))) gone.0 (still s v over.tells (over.running over.tells)) (ap (with_work (state_of s)) gone.1)
  where
    gone : ((it : Job) × (job_of number s.jobs ≡ Some it)) × (state_over v core (plain_jobs js') ≡ job_state (state_of s))
    gone = lacks _ _ number (turns_on s js number _ _ is (has.step over.tells))

-- what the state is where the blocks are the same, a job is taken away, and core is the same
state_without : (s : SessionView) (v : MountState) (core : List ℕ) (js js' : List (Option kept.Job)) (number : ℕ) → s.jobs ≡ plain_jobs js → v.blocks ≡ s.volume.blocks → plain_jobs js' ≡ with_job number None (plain_jobs js) → core ≡ s.console.machine.core
    → state_of (over_work s v (plain_jobs js') core) ≡ after_refusal (state_of s) (entry.Jobs (order.Turn number))
state_without s v core js js' number is blocks left same =
    ap (λ b. at b (plain_jobs js') core) blocks
    ∙ ap (λ (l : List (Option Job)). at s.volume.blocks l core) (left ∙ ap (with_job number None) (sym is))
    ∙ ap (at s.volume.blocks (with_job number None s.jobs)) same
  where
    at : List (List ℕ) → List (Option Job) → List ℕ → State
    at blocks jobs core = state_of (record { volume = record v { blocks = blocks }; jobs = jobs; console = with_core s.console core })

-- a turn that is refused ends its job, whatever it tells of the block calls
turn_ended : (s : SessionView) (v : MountState) (core : List ℕ) (js js' : List (Option kept.Job)) (number : ℕ) (why : JobFault) → why ≢ job.Memory → s.jobs ≡ plain_jobs js → turned_on s js number (Err why) v core js'
    → s.volume.failed_reads ≤ v.failed_reads → s.volume.failed_writes ≤ v.failed_writes → (s.volume.failed_writes < v.failed_writes → Outlives s.volume.blocks v.blocks) → (calls.NoCallFailed s.volume v → v.stopped ≡ false)
    → (s.volume.stopped ≡ false → TellsBlockCalls (entry.Jobs (order.Turn number)) s (Err (fault_of_job why)) (over_work s v (plain_jobs js') core))
    → (s.volume.stopped ≡ true → JobsStopFor (state_of s) (order.Turn number) (fault_of_job why) × (state_of (over_work s v (plain_jobs js') core) ≡ after_refusal (state_of s) (entry.Jobs (order.Turn number))))
    → DoesTurn s v core js' number (Err (fault_of_job why))
turn_ended s v core js js' number why other is has reads writes files running tells halts = record {
  step = λ quiet.
      let turn = turns_on s js number _ _ is (has.step quiet) in
      refused_step (entry.Jobs (order.Turn number)) (state_of s) (state_of (over_work s v (plain_jobs js') core)) why other (why, refl, (_, turn)) (ap (with_work (state_of s)) (ends _ _ number why other turn));
  later = record { reads = reads; writes = writes };
  files = λ running more. files more;
  running = running;
  memory = λ memory. absurd (err_is why other memory);
  reply = is_reply why;
  tells = tells;
  stopped = halts;
  done = tt;
}

-- no block call failed, and none before
turn_quiet : (s : SessionView) (v : MountState) (core : List ℕ) (js js' : List (Option kept.Job)) (number : ℕ) (why : JobFault) → why ≢ job.Memory → s.jobs ≡ plain_jobs js → turned_on s js number (Err why) v core js' → TurnsOver s.volume (Err why) v → calls.NoCallFailed s.volume v
    → (calls.NoCallFailed s.volume v → TellsBlockCalls (entry.Jobs (order.Turn number)) s (Err (fault_of_job why)) (over_work s v (plain_jobs js') core)) → DoesTurn s v core js' number (Err (fault_of_job why))
turn_quiet s v core js js' number why other is has over quiet tells =
    turn_ended s v core js js' number why other is has over.reads over.writes over.files over.running (λ running. tells quiet) (λ halted. absurd (true≢false (sym halted ∙ quiet.running)))

-- there is no job of the number
turn_of_none : (s : SessionView) (v : MountState) (core : List ℕ) (js js' : List (Option kept.Job)) (number : ℕ) (why : JobFault) → s.jobs ≡ plain_jobs js → turned_on s js number (Err why) v core js' → job_of number (plain_jobs js) ≡ None → why ≡ job.NoJob → v ≡ s.volume
    → DoesTurn s v core js' number (Err (fault_of_job why))
turn_of_none s v core js js' number why is has none no_job same =
    subst (λ f. DoesTurn s v core js' number (Err (fault_of_job f))) (sym no_job) (turn_ended s v core js js' number job.NoJob (λ is. cc) is (subst (λ f. turned_on s js number (Err f) v core js') no_job has)
    (omega (arith, reads)) (omega (arith, writes)) (λ more. absurd (omega (arith, more, writes))) (λ quiet. ap (λ (m : MountState). m.stopped) same ∙ quiet.running)
    (λ running. record { running = running; reads = reads; writes = writes })
    (λ halted. (ap (job_of number) is ∙ none, state_without s v core js js' number is (ap (λ (m : MountState). m.blocks) same) (left why no_job has.left) (has.same_core why refl))))
  where
    reads : v.failed_reads ≡ s.volume.failed_reads
    reads = ap (λ (m : MountState). m.failed_reads) same

    writes : v.failed_writes ≡ s.volume.failed_writes
    writes = ap (λ (m : MountState). m.failed_writes) same

    left : (f : JobFault) → f ≡ job.NoJob → LeavesJobs number (Err f) (plain_jobs js) (plain_jobs js') → plain_jobs js' ≡ with_job number None (plain_jobs js)
    left f is leaves = subst (λ x. LeavesJobs number (Err x) (plain_jobs js) (plain_jobs js')) is leaves

-- a turn of a job that is not answered by what it has done
pub turn_refused : (s : SessionView) (v : MountState) (core : List ℕ) (js js' : List (Option kept.Job)) (number : ℕ) (why : JobFault) → s.jobs ≡ plain_jobs js → turned_on s js number (Err why) v core js' → DoesTurn s v core js' number (Err (fault_of_job why))
turn_refused s v core js js' number why is has = of_job (job_of number (plain_jobs js)) refl has.volume
  where
    there : (it : Job) → job_of number (plain_jobs js) ≡ Some it → (job : Job) × (job_of number s.jobs ≡ Some job)
    there it at = (it, ap (job_of number) is ∙ at)

    of_it : (it : Job) → job_of number (plain_jobs js) ≡ Some it → (why : JobFault) → turned_on s js number (Err why) v core js' → TurnsOver s.volume (Err why) v → DoesTurn s v core js' number (Err (fault_of_job why))
    of_it it at job.Memory has over = turn_undone s v core js js' number is has over
    of_it it at (job.File file.Device) has over = turn_ended s v core js js' number (job.File file.Device) (λ is. cc) is has over.reads over.writes over.files over.running
        (λ running. record { call = over.tells; jobs = has.left ∙ ap (with_job number None) (sym is); console = ap (with_core s.console) (has.same_core _ refl) })
        (λ halted. absurd (true≢false (sym halted ∙ (elim over.tells [ inl read ↦ read.running | inr write ↦ write.running ]))))
    of_it it at (job.File file.Stopped) has over = turn_ended s v core js js' number (job.File file.Stopped) (λ is. cc) is has over.reads over.writes over.files over.running
        (λ running. absurd (true≢false (sym over.tells.before ∙ running)))
        (λ halted. (there it at, state_without s v core js js' number is over.tells.blocks has.left (has.same_core _ refl)))
    of_it it at job.NoJob has over = turn_quiet s v core js js' number _ (λ is. cc) is has over over.tells (λ quiet. quiet)
    of_it it at job.TooManyJobs has over = turn_quiet s v core js js' number _ (λ is. cc) is has over over.tells (λ quiet. quiet)
    of_it it at (job.Asm why) has over = turn_quiet s v core js js' number _ (λ is. cc) is has over over.tells (λ quiet. quiet)
    of_it it at (job.Tape why) has over = turn_quiet s v core js js' number _ (λ is. cc) is has over over.tells (λ quiet. quiet)
    of_it it at (job.File file.NotFound) has over = turn_quiet s v core js js' number _ (λ is. cc) is has over over.tells (λ quiet. quiet)
    of_it it at (job.File (file.NoRoom n)) has over = turn_quiet s v core js js' number _ (λ is. cc) is has over over.tells (λ quiet. quiet)
    of_it it at (job.File file.DirectoryFull) has over = turn_quiet s v core js js' number _ (λ is. cc) is has over over.tells (λ quiet. quiet)
    of_it it at (job.File (file.Busy n)) has over = turn_quiet s v core js js' number _ (λ is. cc) is has over over.tells (λ quiet. quiet)
    of_it it at (job.File file.BadName) has over = turn_quiet s v core js js' number _ (λ is. cc) is has over over.tells (λ quiet. quiet)
    of_it it at (job.File file.TooLong) has over = turn_quiet s v core js js' number _ (λ is. cc) is has over over.tells (λ quiet. quiet)
    of_it it at (job.File file.TentativeOpen) has over = turn_quiet s v core js js' number _ (λ is. cc) is has over over.tells (λ quiet. quiet)
    of_it it at (job.File file.Memory) has over = turn_quiet s v core js js' number _ (λ is. cc) is has over over.tells (λ quiet. quiet)
    of_it it at (job.File file.NothingWritten) has over = turn_quiet s v core js js' number _ (λ is. cc) is has over over.tells (λ quiet. quiet)

    no_job : refused_turn why ≡ Err job.NoJob → why ≡ job.NoJob
    no_job told = ap fault_in told
      where
        fault_in : turns.Answer → JobFault
        fault_in (Ok turned) = job.NoJob
        fault_in (Err f) = f

    of_job : (it : Option Job) → job_of number (plain_jobs js) ≡ it → NumberTurnsOver it s.volume (Err why) v → DoesTurn s v core js' number (Err (fault_of_job why))
    of_job None at over = turn_of_none s v core js js' number why is has at (no_job over.0) over.1
    of_job (Some it) at over = of_it it at why has over

-- a turn of the lowest job leaves fewer turns, where memory suffices
pub turn_fewer : ((js : List (Option Job)) (number : ℕ) → lowest_job js ≡ Some number → IsLowest (IsTaken js) (length js) number) → (v v' : MountState) (core core' : List ℕ) (js js' : List (Option kept.Job)) (number : ℕ) (answer : turns.Answer)
    → (answer ≡ Err job.Memory → ⊥) → lowest_job (plain_jobs js) ≡ Some number → TakesTurn v core js number answer v' core' js' → turns_left (plain_jobs js') < turns_left (plain_jobs js)
turn_fewer law v v' core core' js js' number answer other low has = let taken = (law (plain_jobs js) number low).it in has.fewer taken.0 other taken.1

abbrev turn_not : JobFault → turns.Answer
turn_not why = Err why

pub not_lacking : (r : Answer) (why : JobFault) → (IsErrOf r fault.Memory → ⊥) → r ≡ Err (fault_of_job why) → turn_not why ≡ Err job.Memory → ⊥
not_lacking r job.Memory other is same = other (subst (λ (x : Answer). IsErrOf x fault.Memory) (sym is) refl)
not_lacking r job.NoJob other is same = cc
not_lacking r job.TooManyJobs other is same = cc
not_lacking r (job.File why) other is same = cc
not_lacking r (job.Asm why) other is same = cc
not_lacking r (job.Tape why) other is same = cc

-- ## Starts

-- a refusal, after which the volume is as steady as before
pub declined : (e : Entry) (s new : SessionView) (why : JobFault) → why ≢ job.Memory → s.volume.stopped ≡ false → (NoCallFailed s new → TellsBlockCalls e s (Err (fault_of_job why)) new) → IsSteady s.volume new.volume → MayRefuse (state_of s) e (fault_of_job why) → state_of new ≡ after_refusal (state_of s) e → DoesEntry e s (Err (fault_of_job why)) new
declined e s new why other running tells still may after = record {
  step = λ quiet. refused_step e (state_of s) (state_of new) why other may after;
  later = record { reads = omega (arith, still.reads); writes = omega (arith, still.writes) };
  files = λ running more. absurd (omega (arith, more, still.writes));
  running = λ quiet. still.stopped ∙ quiet.running;
  memory = λ is. absurd (err_is why other is);
  reply = is_reply why;
  tells = λ running. tells (record { running = running; reads = still.reads; writes = still.writes });
  stopped = λ halted. absurd (true≢false (sym halted ∙ running));
  done = tt;
}

-- a start changes nothing of the volume but its holds
start_steady : (old new : MountState) → new ≡ record old { holds = new.holds } → IsSteady old new
start_steady old new is = record {
  stopped = ap (λ (m : MountState). m.stopped) is;
  reads = ap (λ (m : MountState). m.failed_reads) is;
  writes = ap (λ (m : MountState). m.failed_writes) is;
}

-- where a write had failed before, nothing is begun
pub start_stopped : (it : JobEntry) (s new : SessionView) (why : JobFault) → JobsStopFor (state_of s) it (fault.File file.Stopped) → state_of new ≡ after_refusal (state_of s) (entry.Jobs it) → s.volume.stopped ≡ true → why ≡ job.File file.Stopped → new.volume ≡ s.volume → DoesEntry (entry.Jobs it) s (Err (fault_of_job why)) new
start_stopped it s new why for after halted is same = subst (λ w. DoesEntry (entry.Jobs it) s (Err (fault_of_job w)) new) (sym is) (stopped _ s new (for, after) halted (after_same _ _ same))

pub never_number : {A E : Type 0} (number : A) (why : E) → Ok number ≡ Err why → ⊥
never_number number why is = cc

abbrev begun_not : JobFault → StartResult
begun_not why = Err why

same_fault : (one two : JobFault) → begun_not one ≡ Err two → one ≡ two
same_fault one two is = ap fault_in is
  where
    fault_in : StartResult → JobFault
    fault_in (Ok number) = job.NoJob
    fault_in (Err why) = why

-- a job is begun
pub start_begun : (e : Entry) (s : SessionView) (v : MountState) (js js' : List (Option kept.Job)) (number : ℕ) → StartsOver s.volume js (Ok number) v js' → (s.volume.stopped ≡ false → MayReply (state_of s) e (Line (line.Job number)) (state_of (over_with s v (plain_jobs js'))))
    → DoesEntry e s (Ok (Line (line.Job number))) (over_with s v (plain_jobs js'))
start_begun e s v js js' number over done = elim (bool_cases s.volume.stopped) [
  | inl halted ↦ absurd (never_number number _ (over.stopped halted).0)
  | inr running ↦ replied _ _ _ _ running (start_steady _ _ over.others) (done running)
]

-- no job is begun
pub start_refused : (it : JobEntry) (s : SessionView) (v : MountState) (js js' : List (Option kept.Job)) (why : JobFault) → job_of_turn it ≡ None → JobsStopFor (state_of s) it (fault.File file.Stopped) → s.jobs ≡ plain_jobs js → StartsOver s.volume js (Err why) v js' → (s.volume.stopped ≡ false → DoesEntry (entry.Jobs it) s (Err (fault_of_job why)) (over_with s v (plain_jobs js')))
    → DoesEntry (entry.Jobs it) s (Err (fault_of_job why)) (over_with s v (plain_jobs js'))
start_refused it s v js js' why none for is over does = elim (bool_cases s.volume.stopped) [
  | inl halted ↦ start_stopped it _ _ why for (ap (λ (m : MountState). state_of (over_with s m (plain_jobs js'))) (over.stopped halted).1 ∙ ap (λ (l : List (Option Job)). state_of (over_with s s.volume l)) (ap plain_jobs (over.stopped halted).2 ∙ sym is) ∙ sym after) halted (same_fault _ _ (over.stopped halted).0) (over.stopped halted).1
  | inr running ↦ does running
]
  where
    after : after_refusal (state_of s) (entry.Jobs it) ≡ state_of s
    after = ap (λ turn. record (state_of s) { jobs = jobs_without turn s.jobs }) none

-- ## Loading

load_on : (s : SessionView) (js : List (Option kept.Job)) (name : ℕ) (answer : StartResult) (after : jobs.State) → s.jobs ≡ plain_jobs js → LoadStarts (state_over s.volume s.console.machine.core (plain_jobs js)) name answer after → LoadStarts (job_state (state_of s)) name answer after
load_on s js name answer after is starts = subst (λ (l : List (Option Job)). LoadStarts (state_over s.volume s.console.machine.core l) name answer after) (sym is) starts

pub load_answered : (s : SessionView) (v : MountState) (js js' : List (Option kept.Job)) (bytes : List ℕ) (name : ℕ) (begun : Result ℕ JobFault) → parsed_name bytes ≡ Some name → s.jobs ≡ plain_jobs js → StartsLoading s.volume js name begun v js'
    → DoesEntry (entry.Jobs (order.Load bytes)) s (job_reply begun) (over_with s v (plain_jobs js'))
load_answered s v js js' bytes name (Ok number) named is has =
    start_begun _ s v js js' number has.over (λ running. (name, named, (_, load_on s js name (Ok number) _ is (has.step running s.console.machine.core), refl)))
load_answered s v js js' bytes name (Err why) named is has = start_refused (order.Load bytes) s v js js' why refl (name, named) is has.over (λ running. by_fault running why (load_on s js name (Err why) _ is (has.step running s.console.machine.core)))
  where
    still : IsSteady s.volume v
    still = start_steady _ _ has.over.others

    by_fault : s.volume.stopped ≡ false → (why : JobFault) → LoadStarts (job_state (state_of s)) name (Err why) (state_over v s.console.machine.core (plain_jobs js')) → DoesEntry (entry.Jobs (order.Load bytes)) s (Err (fault_of_job why)) (over_with s v (plain_jobs js'))
    by_fault running job.TooManyJobs starts = declined _ _ _ job.TooManyJobs (λ same. cc) running (λ quiet. quiet) still (name, named, (job.TooManyJobs, refl, (starts.0, refl))) (ap (with_work (state_of s)) starts.1)
    by_fault running (job.File file.NotFound) starts = declined _ _ _ (job.File file.NotFound) (λ same. cc) running (λ quiet. quiet) still (name, named, (job.File file.NotFound, refl, (starts.0, starts.1, refl))) (ap (with_work (state_of s)) starts.2)
    by_fault running job.Memory starts = undone _ _ _ (λ halted. absurd (true≢false (sym halted ∙ running))) (name, named, (starts.0, starts.1, refl)) still (ap (with_work (state_of s)) starts.2)
    by_fault running job.NoJob starts = absurd starts
    by_fault running (job.File (file.NoRoom n)) starts = absurd starts
    by_fault running (job.File file.DirectoryFull) starts = absurd starts
    by_fault running (job.File (file.Busy n)) starts = absurd starts
    by_fault running (job.File file.BadName) starts = absurd starts
    by_fault running (job.File file.TooLong) starts = absurd starts
    by_fault running (job.File file.TentativeOpen) starts = absurd starts
    by_fault running (job.File file.Device) starts = absurd starts
    by_fault running (job.File file.Stopped) starts = absurd starts
    by_fault running (job.File file.Memory) starts = absurd starts
    by_fault running (job.File file.NothingWritten) starts = absurd starts
    by_fault running (job.Asm why) starts = absurd starts
    by_fault running (job.Tape why) starts = absurd starts

-- ## Assembling

-- one more name
pub parsed_more : (prefix : List (List ℕ)) (names : List ℕ) (bytes : List ℕ) (name : ℕ) → parsed_names prefix ≡ Some names → parsed_name bytes ≡ Some name → parsed_names (prefix ++ bytes ∷ []) ≡ Some (names ++ name ∷ [])
parsed_more [] names bytes name is one = rw one (ap (λ (l : List ℕ). Some (l ++ name ∷ [])) (some_same is))
  where
    some_same : Some [] ≡ Some names → [] ≡ names
    some_same is = cc
parsed_more (first ∷ prefix) names bytes name is one = before (parsed_name first) (parsed_names prefix) (λ ns are. parsed_more prefix ns bytes name are one) refl is
  where
    same : (n : ℕ) (ns names : List ℕ) → Some (n ∷ ns) ≡ Some names → n ∷ ns ≡ names
    same n ns names is = cc

    before : (n : Option ℕ) (o : Option (List ℕ)) → ((ns : List ℕ) → parsed_names prefix ≡ Some ns → parsed_names (prefix ++ bytes ∷ []) ≡ Some (ns ++ name ∷ [])) → parsed_names prefix ≡ o → name_before n o ≡ Some names → name_before n (parsed_names (prefix ++ bytes ∷ [])) ≡ Some (names ++ name ∷ [])
    before None o more are is = cc
    before (Some n) None more are is = cc
    before (Some n) (Some ns) more are is = rw (more ns are) (ap (λ (l : List ℕ). Some (l ++ name ∷ [])) (same n ns names is))

-- no names, where one is none
pub parsed_not : (prefix : List (List ℕ)) (bytes : List ℕ) (others : List (List ℕ)) → parsed_name bytes ≡ None → parsed_names (prefix ++ bytes ∷ others) ≡ None
parsed_not [] bytes others none = rw none refl
parsed_not (first ∷ prefix) bytes others none = rw (parsed_not prefix bytes others none) (before (parsed_name first))
  where
    before : (n : Option ℕ) → name_before n None ≡ None
    before None = refl
    before (Some n) = refl

assemble_on : (s : SessionView) (js : List (Option kept.Job)) (target : ℕ) (from : List ℕ) (answer : StartResult) (after : jobs.State) → s.jobs ≡ plain_jobs js → AssembleStarts (state_over s.volume s.console.machine.core (plain_jobs js)) target from answer after → AssembleStarts (job_state (state_of s)) target from answer after
assemble_on s js target from answer after is starts = subst (λ (l : List (Option Job)). AssembleStarts (state_over s.volume s.console.machine.core l) target from answer after) (sym is) starts

pub assemble_answered : (s : SessionView) (v : MountState) (js js' : List (Option kept.Job)) (to : List ℕ) (from : List (List ℕ)) (target : ℕ) (sources : List ℕ) (begun : Result ℕ JobFault) → parsed_name to ≡ Some target → parsed_names from ≡ Some sources → s.jobs ≡ plain_jobs js
    → StartsAssembling s.volume js target sources begun v js' → DoesEntry (entry.Jobs (order.Assemble to from)) s (job_reply begun) (over_with s v (plain_jobs js'))
assemble_answered s v js js' to from target sources (Ok number) named are is has =
    start_begun _ s v js js' number has.over (λ running. (target, sources, named, are, (_, assemble_on s js target sources (Ok number) _ is (has.step running s.console.machine.core), refl)))
assemble_answered s v js js' to from target sources (Err why) named are is has = start_refused (order.Assemble to from) s v js js' why refl (target, sources, named, are, tt) is has.over (λ running. by_fault running why (assemble_on s js target sources (Err why) _ is (has.step running s.console.machine.core)))
  where
    still : IsSteady s.volume v
    still = start_steady _ _ has.over.others

    by_fault : s.volume.stopped ≡ false → (why : JobFault) → AssembleStarts (job_state (state_of s)) target sources (Err why) (state_over v s.console.machine.core (plain_jobs js')) → DoesEntry (entry.Jobs (order.Assemble to from)) s (Err (fault_of_job why)) (over_with s v (plain_jobs js'))
    by_fault running job.TooManyJobs starts = declined _ _ _ job.TooManyJobs (λ same. cc) running (λ quiet. quiet) still (target, sources, named, are, (job.TooManyJobs, refl, (starts.0, refl))) (ap (with_work (state_of s)) starts.1)
    by_fault running (job.File file.NotFound) starts = declined _ _ _ (job.File file.NotFound) (λ same. cc) running (λ quiet. quiet) still (target, sources, named, are, (job.File file.NotFound, refl, (starts.0, starts.1, refl))) (ap (with_work (state_of s)) starts.2)
    by_fault running (job.File (file.Busy n)) starts = declined _ _ _ (job.File (file.Busy n)) (λ same. cc) running (λ quiet. quiet) still (target, sources, named, are, (job.File (file.Busy n), refl, (starts.0, starts.1, starts.2, starts.3, refl))) (ap (with_work (state_of s)) starts.4)
    by_fault running job.Memory starts = undone _ _ _ (λ halted. absurd (true≢false (sym halted ∙ running))) (target, sources, named, are, (starts.0, refl)) still (ap (with_work (state_of s)) starts.1)
    by_fault running job.NoJob starts = absurd starts
    by_fault running (job.File (file.NoRoom n)) starts = absurd starts
    by_fault running (job.File file.DirectoryFull) starts = absurd starts
    by_fault running (job.File file.BadName) starts = absurd starts
    by_fault running (job.File file.TooLong) starts = absurd starts
    by_fault running (job.File file.TentativeOpen) starts = absurd starts
    by_fault running (job.File file.Device) starts = absurd starts
    by_fault running (job.File file.Stopped) starts = absurd starts
    by_fault running (job.File file.Memory) starts = absurd starts
    by_fault running (job.File file.NothingWritten) starts = absurd starts
    by_fault running (job.Asm why) starts = absurd starts
    by_fault running (job.Tape why) starts = absurd starts

-- ## Squeezing

squeeze_on : (s : SessionView) (js : List (Option kept.Job)) (answer : StartResult) (after : jobs.State) → s.jobs ≡ plain_jobs js → SqueezeStarts (state_over s.volume s.console.machine.core (plain_jobs js)) answer after → SqueezeStarts (job_state (state_of s)) answer after
squeeze_on s js answer after is starts = subst (λ (l : List (Option Job)). SqueezeStarts (state_over s.volume s.console.machine.core l) answer after) (sym is) starts

pub squeeze_answered : (s : SessionView) (v : MountState) (js js' : List (Option kept.Job)) (begun : Result ℕ JobFault) → s.jobs ≡ plain_jobs js → StartsSqueezing s.volume js begun v js' → DoesEntry (entry.Jobs order.Squeeze) s (job_reply begun) (over_with s v (plain_jobs js'))
squeeze_answered s v js js' (Ok number) is has = start_begun _ s v js js' number has.over (λ running. (_, squeeze_on s js (Ok number) _ is (has.step running s.console.machine.core), refl))
squeeze_answered s v js js' (Err why) is has = start_refused order.Squeeze s v js js' why refl tt is has.over (λ running. by_fault running why (squeeze_on s js (Err why) _ is (has.step running s.console.machine.core)))
  where
    by_fault : s.volume.stopped ≡ false → (why : JobFault) → SqueezeStarts (job_state (state_of s)) (Err why) (state_over v s.console.machine.core (plain_jobs js')) → DoesEntry (entry.Jobs order.Squeeze) s (Err (fault_of_job why)) (over_with s v (plain_jobs js'))
    by_fault running job.TooManyJobs starts = declined _ _ _ job.TooManyJobs (λ same. cc) running (λ quiet. quiet) (start_steady _ _ has.over.others) starts.0 (ap (with_work (state_of s)) starts.1)
    by_fault running job.Memory starts = absurd starts
    by_fault running job.NoJob starts = absurd starts
    by_fault running (job.File why) starts = absurd starts
    by_fault running (job.Asm why) starts = absurd starts
    by_fault running (job.Tape why) starts = absurd starts
