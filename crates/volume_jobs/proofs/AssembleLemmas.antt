-- Turns of a job that assembles.
use Rattle.std.proofs.Common.{◌≡◌, ◌∙◌, inl, inr, ℕ, ◌+◌, ◌-◌, ◌<◌, ◌≤◌, Bool, true, false, true≢false, Option, Some, None, List, Ok, Err, refl, ap, sym, subst, arith}
use Rattle.std.specs.FinMap.{get}
use Rattle.volume_image.specs.Volume.{next_count}
use Rattle.os8_dir.specs.Entries.{contains, IsNamed}
use Rattle.os8_dir.specs.Files.{files_of, above_of}
use Rattle.os8_files.specs.Holds.{times}
use Rattle.os8_files.specs.Laws.{KeepsHolds}
use Rattle.os8_files.specs.Mounted.{MountState}
use Rattle.os8_dir.specs.declared.file_faults.FileFault.TheVariants as file
use Rattle.pal_faults.specs.declared.assembling.AsmFault.TheVariants as asm
use Rattle.pal_blocks.specs.Progress.{IsAssembling}
use Rattle.volume_jobs.specs.Calls.{NoCallFailed, TurnsOver, LeavesJobs, WorkCalls, IfFile, WorkTellsRoom}
use Rattle.volume_jobs.specs.Steps.{TurnsJob, plain_after, AreNamed, without_holds, ReadsSource, is_assembled}
use Rattle.volume_jobs.specs.Steps.{is_memory}
use Rattle.volume_jobs.specs.Jobs as plain
use Rattle.volume_jobs.specs.Settled.{state_over, plain_job}
use Rattle.volume_jobs.specs.Sources.{names_of, AreFirst, AssemblyFits, AssemblyStands}
use Rattle.volume_jobs.specs.State.{words_in, AreIn}
use Rattle.volume_jobs.specs.Turns.{Answer, AssemblingTurn}
use Rattle.volume_jobs.specs.declared.assembly.Assembly.{Assembly}
use Rattle.volume_jobs.specs.declared.kinds.Job.{Job}
use Rattle.volume_jobs.specs.declared.kinds.Work.TheVariants as work
use Rattle.volume_jobs.specs.declared.turned.Turned.TheVariants.{Working}
use Rattle.volume_jobs.specs.declared.faults.JobFault.{JobFault}
use Rattle.volume_jobs.specs.declared.faults.JobFault.TheVariants as fault
use Rattle.volume_jobs.proofs.PlaceLemmas.{ReleasedLaw, times_without}
use Rattle.volume_jobs.proofs.StepLemmas.{state_same, same_put, quiet_over, missed_over, stood_over, memory_is}

-- a job of the code that assembles
abbrev pub the_assembly : Assembly → ℕ → Job
the_assembly a left = record { work = work.Assembling a; turns = left }

-- the words of its sources
abbrev pub sources_of : MountState → Assembly → List (List ℕ)
sources_of m a = words_in (files_of m.blocks) (names_of a.holds)

-- its names are held as often as it names them
abbrev pub IsEnough : MountState → Assembly → Type 0
IsEnough m a = (name : ℕ) → times name (names_of a.holds) ≤ times name m.holds

abbrev pub StepsTo : MountState → List ℕ → Assembly → ℕ → Answer → Option Job → MountState → Type 0
StepsTo old core a left answer after new = (number : ℕ) (l : List (Option plain.Job)) → plain.job_of number l ≡ Some (plain.assembling a.to (names_of a.holds) left) → AreNamed old.holds l → NoCallFailed old new
    → AssemblingTurn (state_over old core l) number a.to (names_of a.holds) left answer (state_over new core (plain_after (is_assembled answer) (plain.with_job number (plain_job after) l)))

abbrev pub LeavesFor : Assembly → ℕ → Answer → Option Job → Type 0
LeavesFor a left answer after = (number : ℕ) (l : List (Option plain.Job)) → plain.job_of number l ≡ Some (plain.assembling a.to (names_of a.holds) left) → LeavesJobs number answer l (plain.with_job number (plain_job after) l)

no_squeeze : (a : Assembly) (clean : Bool) → work.Assembling a ≡ work.Squeezing clean → ⊥
no_squeeze a clean is = cc

-- ## A job ends, or goes on

pub ended_by : ReleasedLaw → (old mid new : MountState) (core : List ℕ) (a : Assembly) (left : ℕ) (answer : Answer) → KeepsHolds old mid → mid.tentative ≡ None → new ≡ record mid { holds = without_holds a.holds mid.holds } → IsEnough old a → 1 ≤ left
    → TurnsOver old answer new → StepsTo old core a left answer None new → LeavesFor a left answer None → (is_assembled answer ≡ false → mid.stopped ≡ false → above_of mid.blocks ≤ above_of old.blocks) → WorkCalls (work.Assembling a) left old new
    → IfFile (WorkTellsRoom (plain.Assembling a.to (names_of a.holds)) old) answer → TurnsJob old core (the_assembly a left) answer None new core
ended_by law old mid new core a left answer keeps none is enough some volume step leaves above calls room = record {
  step = step;
  jobs = leaves;
  volume = volume;
  same_core = λ why told. refl;
  stands = λ running. tt;
  fits = tt;
  holds = λ name. omega (arith, ap (λ (m : MountState). times name m.holds) is, ap (λ h. times name (without_holds a.holds h)) keeps.holds, times_without law a.holds old.holds name enough);
  running = λ still. keeps.running (sym (ap (λ (m : MountState). m.stopped) is) ∙ still);
  none = ap (λ (m : MountState). m.tentative) is ∙ none;
  kept = λ name held still. ap (λ (m : MountState). get (files_of m.blocks) name) is ∙ keeps.held name held (sym (ap (λ (m : MountState). m.stopped) is) ∙ still);
  above = λ kind still. omega (arith, ap (λ (m : MountState). above_of m.blocks) is, above kind (sym (ap (λ (m : MountState). m.stopped) is) ∙ still));
  fewer = λ other. omega (arith, some);
  calls = calls;
  squeezed = λ clean is. absurd (no_squeeze a clean is);
  room = room;
}

pub on_by : (old new : MountState) (core : List ℕ) (a b : Assembly) (left rest : ℕ) (answer : Answer) → is_assembled answer ≡ false → KeepsHolds old new → new.tentative ≡ None → b.to ≡ a.to → b.holds ≡ a.holds → AssemblyFits a left → 1 ≤ rest
    → TurnsOver old answer new → StepsTo old core a left answer (Some (the_assembly b rest)) new → LeavesFor a left answer (Some (the_assembly b rest)) → (new.stopped ≡ false → AssemblyStands new.blocks b rest) → (new.stopped ≡ false → above_of new.blocks ≤ above_of old.blocks)
    → ((answer ≡ Err fault.Memory → ⊥) → rest < left) → WorkCalls (work.Assembling a) left old new
    → IfFile (WorkTellsRoom (plain.Assembling a.to (names_of a.holds)) old) answer → TurnsJob old core (the_assembly a left) answer (Some (the_assembly b rest)) new core
on_by old new core a b left rest answer kind keeps none to holds fits some volume step leaves stands above fewer calls room = record {
  step = step;
  jobs = leaves;
  volume = volume;
  same_core = λ why told. refl;
  stands = stands;
  fits = record {
    more = some;
    named = subst IsNamed (sym to) fits.named;
    other = ap (λ h. contains (names_of h) b.to) holds ∙ ap (contains (names_of a.holds)) to ∙ fits.other;
    first = subst AreFirst (sym holds) fits.first;
  };
  holds = λ name. ap (λ h. times name h + times name (names_of a.holds)) keeps.holds ∙ ap (λ h. times name old.holds + times name (names_of h)) (sym holds);
  running = keeps.running;
  none = none;
  kept = keeps.held;
  above = λ other. above;
  fewer = fewer;
  calls = calls;
  squeezed = λ clean is. absurd (no_squeeze a clean is);
  room = room;
}

-- ## Reading

-- a read was made, or none
pub reads_keep : (old new : MountState) (reads failed : ℕ) → new ≡ record old { reads = reads; failed_reads = failed } → KeepsHolds old new
reads_keep old new reads failed is = record {
  holds = ap (λ (m : MountState). m.holds) is;
  running = λ still. sym (ap (λ (m : MountState). m.stopped) is) ∙ still;
  held = λ name held still. ap (λ (m : MountState). get (files_of m.blocks) name) is;
}

same_work : (a b : Assembly) → b.to ≡ a.to → b.holds ≡ a.holds → plain.Assembling b.to (names_of b.holds) ≡ plain.Assembling a.to (names_of a.holds)
same_work a b to holds = ap (λ n. plain.Assembling n (names_of b.holds)) to ∙ ap (λ h. plain.Assembling a.to (names_of h)) holds

-- the job stands on over the same files
stands_read : (old new : MountState) (a b : Assembly) (rest : ℕ) → new.blocks ≡ old.blocks → b.holds ≡ a.holds → AreIn (files_of old.blocks) (names_of a.holds) → IsAssembling (sources_of old a) b.assembling rest → AssemblyStands new.blocks b rest
stands_read old new a b rest same holds there reads = record {
  there = subst (λ x. AreIn (files_of x) (names_of b.holds)) (sym same) (subst (λ h. AreIn (files_of old.blocks) (names_of h)) (sym holds) there);
  reads = subst (λ x. IsAssembling (words_in (files_of x) (names_of b.holds)) b.assembling rest) (sym same) (subst (λ h. IsAssembling (words_in (files_of old.blocks) (names_of h)) b.assembling rest) (sym holds) reads);
}

-- a block was read, and the job goes on
pub working_on : (old new : MountState) (core : List ℕ) (a b : Assembly) (left : ℕ) → old.tentative ≡ None → AssemblyFits a left → AssemblyStands old.blocks a left → 2 ≤ left → b.to ≡ a.to → b.holds ≡ a.holds
    → ReadsSource (sources_of old a) old left (Ok tt) new b → TurnsJob old core (the_assembly a left) (Ok Working) (Some (the_assembly b (left - 1))) new core
working_on old new core a b left none fits is more to holds on =
    on_by old new core a b left (left - 1) (Ok Working) refl (reads_keep old new (next_count old.reads) old.failed_reads on.0.1) (ap (λ (m : MountState). m.tentative) on.0.1 ∙ none) to holds fits (omega (arith, more))
    (quiet_over old new (Ok Working) (next_count old.reads) old.holds (λ quiet. quiet) on.0.0 on.0.1)
    (λ number l there named quiet. (
      on.1.1,
      record {
        more = more;
        others =
            state_same old new core _ (ap (λ (m : MountState). m.blocks) on.0.1)
            ∙ ap (λ (w : plain.Work). record (state_over old core l) { jobs = plain.with_job number (Some (record { work = w; turns = left - 1 })) l }) (same_work a b to holds);
      },
    ))
    (λ number l there. tt)
    (λ running. stands_read old new a b (left - 1) (ap (λ (m : MountState). m.blocks) on.0.1) holds is.there on.1.0)
    (λ running. omega (arith, ap (λ (m : MountState). above_of m.blocks) on.0.1))
    (λ other. omega (arith, more))
    (inl (ap (λ (m : MountState). m.blocks) on.0.1, inr (ap (λ (m : MountState). m.reads) on.0.1))) tt

same_job : (a b : Assembly) (left number : ℕ) (l : List (Option plain.Job)) → b.to ≡ a.to → b.holds ≡ a.holds → plain.job_of number l ≡ Some (plain.assembling a.to (names_of a.holds) left) → plain.with_job number (plain_job (Some (the_assembly b left))) l ≡ l
same_job a b left number l to holds there = ap (λ (w : plain.Work). plain.with_job number (Some (record { work = w; turns = left })) l) (same_work a b to holds) ∙ same_put number (plain.assembling a.to (names_of a.holds) left) l there

-- memory ran out in a block
pub memory_on : (old new : MountState) (core : List ℕ) (a b : Assembly) (left : ℕ) (why : JobFault) → is_memory why ≡ true → old.tentative ≡ None → AssemblyFits a left → AssemblyStands old.blocks a left → b.to ≡ a.to → b.holds ≡ a.holds
    → ReadsSource (sources_of old a) old left (Err why) new b → TurnsJob old core (the_assembly a left) (Err why) (Some (the_assembly b left)) new core
memory_on old new core a b left why memory none fits is to holds reads =
    subst (λ w. TurnsJob old core (the_assembly a left) (Err w) (Some (the_assembly b left)) new core) (sym this) (told (subst (λ w. ReadsSource (sources_of old a) old left (Err w) new b) this reads))
  where
    this : why ≡ fault.Memory
    this = memory_is why memory

    told : ReadsSource (sources_of old a) old left (Err fault.Memory) new b → TurnsJob old core (the_assembly a left) (Err fault.Memory) (Some (the_assembly b left)) new core
    told on =
        on_by old new core a b left left (Err fault.Memory) refl (reads_keep old new (next_count old.reads) old.failed_reads on.0.1) (ap (λ (m : MountState). m.tentative) on.0.1 ∙ none) to holds fits fits.more
        (quiet_over old new (Err fault.Memory) (next_count old.reads) old.holds (λ quiet. quiet) on.0.0 on.0.1)
        (λ number l there named quiet. state_same old new core _ (ap (λ (m : MountState). m.blocks) on.0.1) ∙ ap (state_over old core) (same_job a b left number l to holds there))
        (λ number l there. same_job a b left number l to holds there)
        (λ running. stands_read old new a b left (ap (λ (m : MountState). m.blocks) on.0.1) holds is.there on.1)
        (λ running. omega (arith, ap (λ (m : MountState). above_of m.blocks) on.0.1))
        (λ other. absurd (other refl))
        (inl (ap (λ (m : MountState). m.blocks) on.0.1, inr (ap (λ (m : MountState). m.reads) on.0.1))) tt

-- what is left where the job has let go after a read
gone_from : (old mid new : MountState) (places : List (Option ℕ)) (reads failed : ℕ) → mid ≡ record old { reads = reads; failed_reads = failed } → new ≡ record mid { holds = without_holds places mid.holds } → new ≡ record old { reads = reads; failed_reads = failed; holds = without_holds places old.holds }
gone_from old mid new places reads failed is gone = gone ∙ ap (λ (m : MountState). record m { holds = without_holds places m.holds }) is

-- a refusal of a turn that reads ends the job
pub refused_on : ReleasedLaw → (old mid new : MountState) (core : List ℕ) (a b : Assembly) (left : ℕ) (why : JobFault) → is_memory why ≡ false → old.tentative ≡ None → 2 ≤ left → IsEnough old a
    → ReadsSource (sources_of old a) old left (Err why) mid b → new ≡ record mid { holds = without_holds a.holds mid.holds } → TurnsJob old core (the_assembly a left) (Err why) None new core
refused_on law old mid new core a b left (fault.Asm (asm.At code line)) memory none more enough on gone =
    ended_by law old mid new core a left (Err (fault.Asm (asm.At code line))) (reads_keep old mid (next_count old.reads) old.failed_reads on.0.1) (ap (λ (m : MountState). m.tentative) on.0.1 ∙ none) gone enough (omega (arith, more))
    (quiet_over old new _ (next_count old.reads) _ (λ quiet. quiet) on.0.0 all)
    (λ number l there named quiet. (more, on.1.1, on.1.0, state_same old new core _ (ap (λ (m : MountState). m.blocks) all)))
    (λ number l there. refl)
    (λ kind running. omega (arith, ap (λ (m : MountState). above_of m.blocks) on.0.1))
    (inl (ap (λ (m : MountState). m.blocks) all, inr (ap (λ (m : MountState). m.reads) all))) tt
  where
    all : new ≡ record old { reads = next_count old.reads; holds = without_holds a.holds old.holds }
    all = gone_from old mid new a.holds (next_count old.reads) old.failed_reads on.0.1 gone
refused_on law old mid new core a b left (fault.File file.Device) memory none more enough on gone =
    ended_by law old mid new core a left (Err (fault.File file.Device)) (reads_keep old mid (next_count old.reads) (old.failed_reads + 1) on.1) (ap (λ (m : MountState). m.tentative) on.1 ∙ none) gone enough (omega (arith, more))
    (missed_over old new (next_count old.reads) _ on.0 all)
    (λ number l there named quiet. absurd (never quiet.reads))
    (λ number l there. refl)
    (λ kind running. omega (arith, ap (λ (m : MountState). above_of m.blocks) on.1))
    (inl (ap (λ (m : MountState). m.blocks) all, inr (ap (λ (m : MountState). m.reads) all))) tt
  where
    all : new ≡ record old { reads = next_count old.reads; failed_reads = old.failed_reads + 1; holds = without_holds a.holds old.holds }
    all = gone_from old mid new a.holds (next_count old.reads) (old.failed_reads + 1) on.1 gone

    never : new.failed_reads ≡ old.failed_reads → ⊥
    never reads = omega (arith, reads, ap (λ (m : MountState). m.failed_reads) all)
refused_on law old mid new core a b left (fault.Asm asm.Memory) memory none more enough on gone = absurd on
refused_on law old mid new core a b left (fault.File file.NotFound) memory none more enough on gone = absurd on
refused_on law old mid new core a b left (fault.File (file.NoRoom n)) memory none more enough on gone = absurd on
refused_on law old mid new core a b left (fault.File file.DirectoryFull) memory none more enough on gone = absurd on
refused_on law old mid new core a b left (fault.File (file.Busy n)) memory none more enough on gone = absurd on
refused_on law old mid new core a b left (fault.File file.BadName) memory none more enough on gone = absurd on
refused_on law old mid new core a b left (fault.File file.TooLong) memory none more enough on gone = absurd on
refused_on law old mid new core a b left (fault.File file.TentativeOpen) memory none more enough on gone = absurd on
refused_on law old mid new core a b left (fault.File file.Stopped) memory none more enough on gone = absurd on
refused_on law old mid new core a b left (fault.File file.Memory) memory none more enough on gone = absurd on
refused_on law old mid new core a b left (fault.File file.NothingWritten) memory none more enough on gone = absurd on
refused_on law old mid new core a b left fault.NoJob memory none more enough on gone = absurd on
refused_on law old mid new core a b left fault.TooManyJobs memory none more enough on gone = absurd on
refused_on law old mid new core a b left (fault.Tape why) memory none more enough on gone = absurd on
refused_on law old mid new core a b left fault.Memory memory none more enough on gone = absurd (true≢false memory)

-- a write had failed before
pub stopped_at : ReleasedLaw → (old new : MountState) (core : List ℕ) (a : Assembly) (left : ℕ) → old.stopped ≡ true → old.tentative ≡ None → 1 ≤ left → IsEnough old a → new ≡ record old { holds = without_holds a.holds old.holds } → TurnsJob old core (the_assembly a left) (Err (fault.File file.Stopped)) None new core
stopped_at law old new core a left stopped none some enough gone =
    ended_by law old old new core a left (Err (fault.File file.Stopped)) (reads_keep old old old.reads old.failed_reads refl) none gone enough some
    (stood_over old new _ stopped gone)
    (λ number l there named quiet. absurd (true≢false (sym stopped ∙ quiet.running)))
    (λ number l there. refl)
    (λ kind running. omega arith)
    (inl (ap (λ (m : MountState). m.blocks) gone, inl (ap (λ (m : MountState). m.reads) gone))) tt
