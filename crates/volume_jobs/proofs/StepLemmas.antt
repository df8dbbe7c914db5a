-- Turns of jobs as steps.
use Rattle.std.proofs.Common.{◌≡◌, ◌∙◌, inl, inr, ℕ, ◌+◌, ◌-◌, ◌<◌, ◌≤◌, true, false, true≢false, suc, zero, Option, Some, None, List, Ok, Err, refl, ap, sym, subst, arith, slice_set}
use Rattle.std.proofs.lemmas.List.{set-get_or}
use Rattle.std.specs.FinMap.{get}
use Rattle.volume_image.specs.Volume.{next_count}
use Rattle.core_load.specs.Load.{IsLoaded}
use Rattle.char_pack.specs.Packing.{frames}
use Rattle.os8_dir.specs.Files.{files_of}
use Rattle.os8_files.specs.Mounted.{MountState}
use Rattle.os8_files.specs.Holds.{without_hold}
use Rattle.os8_dir.specs.declared.file_faults.FileFault.{FileFault}
use Rattle.os8_dir.specs.declared.file_faults.FileFault.TheVariants as file
use Rattle.volume_jobs.specs.Calls.{NoCallFailed, IfFile, TellsFailures, TurnsOver}
use Rattle.volume_jobs.specs.Steps.{LeavesHold, TurnsLoading, HasReadOne, LoadsOn}
use Rattle.volume_jobs.specs.Steps.{is_memory}
use Rattle.volume_jobs.specs.Jobs as plain
use Rattle.volume_jobs.specs.Jobs.{job_of, with_job, loading}
use Rattle.volume_jobs.specs.Reading.{HasWords, IsLoading}
use Rattle.pal_blocks.specs.Blocks.{blocks_in, turn_of}
use Rattle.volume_jobs.specs.Schedule.{loading_turns, IsMetNone, IsFirstMet}
use Rattle.volume_jobs.specs.Settled.{state_over, StandsIn, LoadingFits}
use Rattle.volume_jobs.specs.State.{words_or, words_of}
use Rattle.volume_jobs.specs.Turns.{Answer}
use Rattle.volume_jobs.specs.declared.loading.Loading.{Loading}
use Rattle.volume_jobs.specs.declared.kinds.Job.{Job}
use Rattle.volume_jobs.specs.declared.kinds.Work.TheVariants as work
use Rattle.volume_jobs.specs.declared.turned.Turned.TheVariants.{Working, Loaded}
use Rattle.volume_jobs.specs.declared.faults.JobFault.{JobFault}
use Rattle.volume_jobs.specs.declared.faults.JobFault.TheVariants as fault

pub state_same : (old new : MountState) (core : List ℕ) (jobs : List (Option plain.Job)) → new.blocks ≡ old.blocks → state_over new core jobs ≡ state_over old core jobs
state_same old new core jobs same = ap (λ (m : MountState). state_over m core jobs) (ap (λ b. record old { blocks = b }) same)

turn_is : (words : List ℕ) (job : Loading) (left : ℕ) → IsLoading words job left → turn_of (loading_turns (blocks_in words)) left ≡ job.blocks_read + 1
turn_is words job left is = omega (arith, is.turns, is.more)

words_are : (m : MountState) (core : List ℕ) (jobs : List (Option plain.Job)) (name : ℕ) (words : List ℕ) → HasWords (files_of m.blocks) name words → words_of (state_over m core jobs) name ≡ words
words_are m core jobs name words has = ap words_or has.1

-- ## The volume

abbrev refusal : JobFault → Answer
refusal why = Err why

others : (old new : MountState) (reads failed : ℕ) (holds : List ℕ) → new ≡ record old { reads = reads; failed_reads = failed; holds = holds } → new ≡ record old { reads = new.reads; failed_reads = new.failed_reads; holds = holds }
others old new reads failed holds is = is ∙ ap (λ (m : MountState). record old { reads = m.reads; failed_reads = m.failed_reads; holds = holds }) (sym is)

-- no block call failed
pub moved_over : (old new : MountState) (answer : Answer) → (NoCallFailed old new → TellsFailures old answer new) → old.stopped ≡ false → new.failed_reads ≡ old.failed_reads → new.failed_writes ≡ old.failed_writes → new.stopped ≡ false → TurnsOver old answer new
moved_over old new answer tells running reads writes still = record {
  tells = tells quiet;
  reads = omega (arith, reads);
  writes = omega (arith, writes);
  running = λ again. still;
  files = λ more. absurd (omega (arith, more, writes));
}
  where
    quiet : NoCallFailed old new
    quiet = record { running = running; reads = reads; writes = writes }

pub quiet_over : (old new : MountState) (answer : Answer) (reads : ℕ) (holds : List ℕ) → (NoCallFailed old new → TellsFailures old answer new) → old.stopped ≡ false → new ≡ record old { reads = reads; holds = holds } → TurnsOver old answer new
quiet_over old new answer reads holds tells running is =
    moved_over old new answer tells running (ap (λ (m : MountState). m.failed_reads) is) (ap (λ (m : MountState). m.failed_writes) is) (ap (λ (m : MountState). m.stopped) is ∙ running)

failed_over : (old new : MountState) (answer : Answer) (reads failed : ℕ) (holds : List ℕ) → TellsFailures old answer new → old.failed_reads ≤ failed → new ≡ record old { reads = reads; failed_reads = failed; holds = holds } → TurnsOver old answer new
failed_over old new answer reads failed holds tells more is = record {
  tells = tells;
  reads = omega (arith, more, ap (λ (m : MountState). m.failed_reads) is);
  writes = omega (arith, ap (λ (m : MountState). m.failed_writes) is);
  running = λ quiet. ap (λ (m : MountState). m.stopped) is ∙ quiet.running;
  files = λ more. absurd (omega (arith, more, ap (λ (m : MountState). m.failed_writes) is));
}

-- a read failed
pub missed_over : (old new : MountState) (reads : ℕ) (holds : List ℕ) → old.stopped ≡ false → new ≡ record old { reads = reads; failed_reads = old.failed_reads + 1; holds = holds } → TurnsOver old (Err (fault.File file.Device)) new
missed_over old new reads holds running is = failed_over old new (Err (fault.File file.Device)) reads (old.failed_reads + 1) holds (inl (record {
  running = running;
  reads = omega (arith, ap (λ (m : MountState). m.failed_reads) is);
  writes = ap (λ (m : MountState). m.failed_writes) is;
  blocks = ap (λ (m : MountState). m.blocks) is;
  still = ap (λ (m : MountState). m.stopped) is ∙ running;
})) (omega arith) is

-- a write had failed before
pub stood_over : (old new : MountState) (holds : List ℕ) → old.stopped ≡ true → new ≡ record old { holds = holds } → TurnsOver old (Err (fault.File file.Stopped)) new
stood_over old new holds before is = failed_over old new (Err (fault.File file.Stopped)) old.reads old.failed_reads holds (record {
  before = before;
  stopped = ap (λ (m : MountState). m.stopped) is ∙ before;
  reads = ap (λ (m : MountState). m.failed_reads) is;
  writes = ap (λ (m : MountState). m.failed_writes) is;
  blocks = ap (λ (m : MountState). m.blocks) is;
}) (omega arith) is

-- ## Turns

-- the last turn
pub laid_turn : (words : List ℕ) (old new : MountState) (core core2 : List ℕ) (job : Loading) (left name : ℕ) → HasWords (files_of old.blocks) job.hold words → IsLoading words job left → left < 2 → old.stopped ≡ false → name ≡ job.hold
    → (IsLoading words job 1 → IsLoaded (frames words) core core2) → new ≡ record old { holds = without_hold job.hold old.holds } → TurnsLoading old core job left (Ok (Loaded name)) None new core2
laid_turn words old new core core2 job left name has stands low running same loads is = record {
  kind = refl;
  step = λ number jobs there quiet. (
    same,
    one,
    record {
      laid = subst (λ w. IsLoaded (frames w) core core2) (sym (words_are old core jobs job.hold words has)) (loads (subst (λ n. IsLoading words job n) one stands));
      others = state_same old new core2 (with_job number None jobs) (ap (λ (m : MountState). m.blocks) is);
    },
  );
  jobs = λ number jobs there. tt;
  volume = quiet_over old new _ old.reads _ (λ quiet. quiet) running is;
  same_core = λ why told. cc;
  stands = λ still. tt;
  kept = record { reads = inl (ap (λ (m : MountState). m.reads) is); others = others old new old.reads old.failed_reads _ is };
  fits = tt;
  fewer = λ not_memory. omega (arith, stands.more);
}
  where
    one : left ≡ 1
    one = omega (arith, low, stands.more)

-- a block was read, and the job goes on with another one, or with as many turns as before
abbrev pub with_turns : Loading → ℕ → Option Job
with_turns job left = Some (record { work = work.Loading job; turns = left })

kept_on : (old new : MountState) (job : Loading) (after : Job) → HasReadOne old new → LeavesHold old job.hold (Some after) new
kept_on old new job after one = record {
  reads = inr (ap (λ (m : MountState). m.reads) one.1);
  others = others old new (next_count old.reads) old.failed_reads old.holds one.1;
}

goes_on : (old new : MountState) (words : List ℕ) (job job2 : Loading) (left : ℕ) → HasWords (files_of old.blocks) job.hold words → HasReadOne old new → job2.hold ≡ job.hold → IsLoading words job2 left → StandsIn new.blocks (with_turns job2 left)
goes_on old new words job job2 left has one same is = (
  words,
  (has.0, ap (λ n. get (files_of new.blocks) n) same ∙ ap (λ (m : MountState). get (files_of m.blocks) job.hold) one.1 ∙ has.1),
  is,
)

pub working_turn : (words : List ℕ) (old new : MountState) (core : List ℕ) (job job2 : Loading) (left : ℕ) → HasWords (files_of old.blocks) job.hold words → IsLoading words job left → LoadingFits job left → 2 ≤ left
    → job2.blocks_read ≤ job.blocks_read + 1 → LoadsOn words old job left (Ok tt) new job2 → TurnsLoading old core job left (Ok Working) (with_turns job2 (left - 1)) new core
working_turn words old new core job job2 left has is fits more done loads = record {
  kind = refl;
  step = λ number jobs there quiet. (
    subst (λ w. IsMetNone w (turn_of (loading_turns (blocks_in w)) left)) (sym (words_are old core jobs job.hold words has)) (subst (λ t. IsMetNone words t) (sym (turn_is words job left is)) loads.1.2),
    record {
      more = more;
      others =
          state_same old new core _ (ap (λ (m : MountState). m.blocks) loads.0.1)
          ∙ ap (λ n. record (state_over old core jobs) { jobs = with_job number (Some (loading n (left - 1))) jobs }) loads.1.1;
    },
  );
  jobs = λ number jobs there. tt;
  volume = quiet_over old new _ (next_count old.reads) old.holds (λ quiet. quiet) loads.0.0 loads.0.1;
  same_core = λ why told. refl;
  stands = λ running. goes_on old new words job job2 (left - 1) has loads.0 loads.1.1 loads.1.0;
  kept = kept_on old new job _ loads.0;
  fits = (record { more = omega (arith, more); offset = omega (arith, loads.1.0.offset); turns = omega (arith, fits.turns, done, more) }, loads.1.1);
  fewer = λ not_memory. omega (arith, more);
}

pub same_put : (number : ℕ) (it : plain.Job) (jobs : List (Option plain.Job)) → job_of number jobs ≡ Some it → with_job number (Some it) jobs ≡ jobs
same_put zero it jobs is = refl
same_put (suc place) it jobs is = ap (λ j. slice_set jobs place j) (sym is) ∙ set-get_or jobs place None

pub memory_is : (why : JobFault) → is_memory why ≡ true → why ≡ fault.Memory
memory_is fault.NoJob is = absurd (true≢false (sym is))
memory_is fault.TooManyJobs is = absurd (true≢false (sym is))
memory_is (fault.File why) is = absurd (true≢false (sym is))
memory_is (fault.Asm why) is = absurd (true≢false (sym is))
memory_is (fault.Tape why) is = absurd (true≢false (sym is))
memory_is fault.Memory is = refl

-- memory ran out
pub memory_turn : (words : List ℕ) (old new : MountState) (core : List ℕ) (job job2 : Loading) (left : ℕ) (why : JobFault) → is_memory why ≡ true → HasWords (files_of old.blocks) job.hold words → LoadingFits job left
    → (why ≡ fault.Memory → job2.blocks_read ≡ job.blocks_read) → LoadsOn words old job left (Err why) new job2 → TurnsLoading old core job left (Err why) (with_turns job2 left) new core
memory_turn words old new core job job2 left why memory has fits done loads =
    subst (λ w. TurnsLoading old core job left (Err w) (with_turns job2 left) new core) (sym this) (told (subst (λ w. LoadsOn words old job left (Err w) new job2) this loads))
  where
    this : why ≡ fault.Memory
    this = memory_is why memory

    told : LoadsOn words old job left (Err fault.Memory) new job2 → TurnsLoading old core job left (Err fault.Memory) (with_turns job2 left) new core
    told on = record {
      kind = refl;
      step = λ number jobs there quiet.
          state_same old new core _ (ap (λ (m : MountState). m.blocks) on.0.1)
          ∙ ap (state_over old core) (put number jobs there);
      jobs = put;
      volume = quiet_over old new _ (next_count old.reads) old.holds (λ quiet. quiet) on.0.0 on.0.1;
      same_core = λ why told. refl;
      stands = λ running. goes_on old new words job job2 left has on.0 on.1.1 on.1.0;
      kept = kept_on old new job _ on.0;
      fits = (record { more = fits.more; offset = omega (arith, on.1.0.offset); turns = omega (arith, fits.turns, done this) }, on.1.1);
      fewer = λ not_memory. absurd (not_memory refl);
    }
      where
        put : (number : ℕ) (jobs : List (Option plain.Job)) → job_of number jobs ≡ Some (loading job.hold left) → with_job number (Some (loading job2.hold left)) jobs ≡ jobs
        put number jobs there = ap (λ n. with_job number (Some (loading n left)) jobs) on.1.1 ∙ same_put number (loading job.hold left) jobs there

-- a refusal ends the job
let_go : (old mid new : MountState) (reads failed : ℕ) (hold hold2 : ℕ) → hold2 ≡ hold → mid ≡ record old { reads = reads; failed_reads = failed } → new ≡ record mid { holds = without_hold hold2 mid.holds } → new ≡ record old { reads = reads; failed_reads = failed; holds = without_hold hold old.holds }
let_go old mid new reads failed hold hold2 same is gone =
    gone ∙ ap (λ (m : MountState). record m { holds = without_hold hold2 m.holds }) is ∙ ap (λ h. record old { reads = reads; failed_reads = failed; holds = without_hold h old.holds }) same

pub refused_turn : (words : List ℕ) (old mid new : MountState) (core : List ℕ) (job job2 : Loading) (left : ℕ) (why : JobFault) → is_memory why ≡ false → HasWords (files_of old.blocks) job.hold words → IsLoading words job left → 2 ≤ left
    → job2.hold ≡ job.hold → LoadsOn words old job left (Err why) mid job2 → new ≡ record mid { holds = without_hold job2.hold mid.holds } → TurnsLoading old core job left (Err why) None new core
refused_turn words old mid new core job job2 left (fault.Tape why) memory has is more same loads gone = record {
  kind = refl;
  step = λ number jobs there quiet. (
    more,
    subst (λ w. IsFirstMet w (turn_of (loading_turns (blocks_in w)) left) why) (sym (words_are old core jobs job.hold words has)) (subst (λ t. IsFirstMet words t why) (sym (turn_is words job left is)) loads.1.0),
    state_same old new core _ (ap (λ (m : MountState). m.blocks) all),
  );
  jobs = λ number jobs there. refl;
  volume = quiet_over old new _ (next_count old.reads) _ (λ quiet. quiet) loads.0.0 all;
  same_core = λ why told. refl;
  stands = λ running. tt;
  kept = record { reads = inr (ap (λ (m : MountState). m.reads) all); others = others old new (next_count old.reads) old.failed_reads _ all };
  fits = tt;
  fewer = λ not_memory. omega (arith, more);
}
  where
    all : new ≡ record old { reads = next_count old.reads; holds = without_hold job.hold old.holds }
    all = let_go old mid new (next_count old.reads) old.failed_reads job.hold job2.hold same loads.0.1 gone
refused_turn words old mid new core job job2 left (fault.File file.Device) memory has is more same loads gone = record {
  kind = refl;
  step = λ number jobs there quiet. absurd (never quiet.reads);
  jobs = λ number jobs there. refl;
  volume = missed_over old new (next_count old.reads) _ loads.0 all;
  same_core = λ why told. refl;
  stands = λ running. tt;
  kept = record { reads = inr (ap (λ (m : MountState). m.reads) all); others = others old new (next_count old.reads) (old.failed_reads + 1) _ all };
  fits = tt;
  fewer = λ not_memory. omega (arith, more);
}
  where
    all : new ≡ record old { reads = next_count old.reads; failed_reads = old.failed_reads + 1; holds = without_hold job.hold old.holds }
    all = let_go old mid new (next_count old.reads) (old.failed_reads + 1) job.hold job2.hold same loads.1 gone

    never : new.failed_reads ≡ old.failed_reads → ⊥
    never reads = omega (arith, reads, ap (λ (m : MountState). m.failed_reads) all)
refused_turn words old mid new core job job2 left (fault.File file.NotFound) memory has is more same loads gone = absurd loads
refused_turn words old mid new core job job2 left (fault.File (file.NoRoom n)) memory has is more same loads gone = absurd loads
refused_turn words old mid new core job job2 left (fault.File file.DirectoryFull) memory has is more same loads gone = absurd loads
refused_turn words old mid new core job job2 left (fault.File (file.Busy n)) memory has is more same loads gone = absurd loads
refused_turn words old mid new core job job2 left (fault.File file.BadName) memory has is more same loads gone = absurd loads
refused_turn words old mid new core job job2 left (fault.File file.TooLong) memory has is more same loads gone = absurd loads
refused_turn words old mid new core job job2 left (fault.File file.TentativeOpen) memory has is more same loads gone = absurd loads
refused_turn words old mid new core job job2 left (fault.File file.Stopped) memory has is more same loads gone = absurd loads
refused_turn words old mid new core job job2 left (fault.File file.Memory) memory has is more same loads gone = absurd loads
refused_turn words old mid new core job job2 left (fault.File file.NothingWritten) memory has is more same loads gone = absurd loads
refused_turn words old mid new core job job2 left fault.NoJob memory has is more same loads gone = absurd loads
refused_turn words old mid new core job job2 left fault.TooManyJobs memory has is more same loads gone = absurd loads
refused_turn words old mid new core job job2 left (fault.Asm why) memory has is more same loads gone = absurd loads
refused_turn words old mid new core job job2 left fault.Memory memory has is more same loads gone = absurd (true≢false memory)

-- ## Answers

-- what holds of each fault of files
pub of_each : (has : FileFault → Type 0) → ((why : FileFault) → has why) → (answer : Answer) → IfFile has answer
of_each has each (Ok turned) = tt
of_each has each (Err (fault.File why)) = each why
of_each has each (Err fault.NoJob) = tt
of_each has each (Err fault.TooManyJobs) = tt
of_each has each (Err (fault.Asm why)) = tt
of_each has each (Err (fault.Tape why)) = tt
of_each has each (Err fault.Memory) = tt
