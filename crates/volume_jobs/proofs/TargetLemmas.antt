-- The last turn of a job that assembles.
use Rattle.std.proofs.Common.{◌≡◌, ◌∙◌, inl, inr, ℕ, ◌+◌, ◌<◌, nat_eq, Bool, true, false, true≢false, Option, Some, None, List, Ok, Err, refl, ap, sym, subst, arith}
use Rattle.std.proofs.lemmas.Bool.Decides.{eqb_tells}
use Rattle.std.specs.FinMap.{insert}
use Rattle.os8_dir.specs.Files.{Files, files_of, above_of, capacity_of, limit_of}
use Rattle.os8_files.specs.Calls.{IsLargest, IsOver, info_of}
use Rattle.os8_files.specs.Failed.{Survives}
use Rattle.os8_files.specs.Laws.{KeepsHolds}
use Rattle.os8_files.specs.Mounted.{MountState}
use Rattle.os8_files.specs.Puts as puts
use Rattle.os8_files.specs.Puts.{PutsFile, HasKept, HasNoEntry, PutFailed, blocks_filled}
use Rattle.os8_dir.specs.declared.file_faults.FileFault.{FileFault}
use Rattle.os8_dir.specs.declared.file_faults.FileFault.TheVariants as file
use Rattle.pal_asm.specs.Faults.{fault_of}
use Rattle.pal_faults.specs.declared.assembling.AsmFault.{AsmFault}
use Rattle.pal_faults.specs.declared.assembling.AsmFault.TheVariants as asm
use Rattle.pal_blocks.specs.Blocks.{blocks_in}
use Rattle.pal_blocks.specs.Progress.{IsAssembling}
use Rattle.pal_blocks.specs.Sources.{newest_first, assembled_words, IsTapeOfSources}
use Rattle.pal_blocks.specs.Turns.{MakesTarget}
use Rattle.volume_jobs.specs.Steps.{TurnsJob, without_holds}
use Rattle.volume_jobs.specs.Steps.{is_memory}
use Rattle.volume_jobs.specs.Faults.{fault_of_asm, fault_of_file}
use Rattle.volume_jobs.specs.Jobs as plain
use Rattle.volume_jobs.specs.Settled.{state_over}
use Rattle.volume_jobs.specs.Sources.{names_of, AssemblyFits, AssemblyStands}
use Rattle.volume_jobs.specs.State.{State, IsCrowded, IsFull, words_in, AreIn, plain_file}
use Rattle.volume_jobs.specs.declared.assembly.Assembly.{Assembly}
use Rattle.volume_jobs.specs.declared.turned.Turned.TheVariants.{Assembled}
use Rattle.volume_jobs.specs.declared.faults.JobFault.TheVariants as fault
use Rattle.volume_jobs.proofs.AssembleLemmas.{the_assembly, sources_of, IsEnough, ended_by, on_by, reads_keep}
use Rattle.volume_jobs.proofs.PlaceLemmas.{ReleasedLaw}
use Rattle.volume_jobs.proofs.StepLemmas.{same_put, quiet_over, moved_over}

-- ## Numbers of the directory

zero_is : (n : ℕ) → nat_eq n 0 ≡ true → n ≡ 0
zero_is n is = elim (eqb_tells n 0) [ inl h ↦ h.1 | inr h ↦ absurd (true≢false (sym is ∙ h.0)) ]

-- the parts of a state over a volume
abbrev state_with : Files → ℕ → ℕ → ℕ → Bool → List ℕ → List (Option plain.Job) → State
state_with files capacity limit info tight core jobs = record { files = files; capacity = capacity; limit = limit; info = info; tight = tight; core = core; jobs = jobs }

-- no file is changed
kept_state : (old new : MountState) (n : ℕ) (core : List ℕ) (jobs : List (Option plain.Job)) → HasKept old n new → state_over new core jobs ≡ state_over old core jobs
kept_state old new n core jobs kept =
    ap (λ f. state_with f (capacity_of new.blocks) (limit_of new.blocks) (info_of new.blocks) (nat_eq (above_of new.blocks) 0) core jobs) kept.files
    ∙ ap (λ c. state_with (files_of old.blocks) c (limit_of new.blocks) (info_of new.blocks) (nat_eq (above_of new.blocks) 0) core jobs) kept.capacity
    ∙ ap (λ l. state_with (files_of old.blocks) (capacity_of old.blocks) l (info_of new.blocks) (nat_eq (above_of new.blocks) 0) core jobs) kept.limit
    ∙ ap (λ i. state_with (files_of old.blocks) (capacity_of old.blocks) (limit_of old.blocks) i (nat_eq (above_of new.blocks) 0) core jobs) kept.info
    ∙ ap (λ n. state_with (files_of old.blocks) (capacity_of old.blocks) (limit_of old.blocks) (info_of old.blocks) (nat_eq n 0) core jobs) kept.above

-- a file was put
put_state : (old new : MountState) (name : ℕ) (words : List ℕ) (core : List ℕ) (jobs after : List (Option plain.Job)) → puts.HasPut old name words new
    → state_over new core after ≡ record (state_over old core jobs) { files = insert (files_of old.blocks) name (plain_file (state_over old core jobs) words); tight = nat_eq (above_of new.blocks) 0; jobs = after }
put_state old new name words core jobs after put =
    ap (λ f. state_with f (capacity_of new.blocks) (limit_of new.blocks) (info_of new.blocks) (nat_eq (above_of new.blocks) 0) core after) put.files
    ∙ ap (λ c. state_with (insert (files_of old.blocks) name (puts.plain_file old words)) c (limit_of new.blocks) (info_of new.blocks) (nat_eq (above_of new.blocks) 0) core after) put.capacity
    ∙ ap (λ l. state_with (insert (files_of old.blocks) name (puts.plain_file old words)) (capacity_of old.blocks) l (info_of new.blocks) (nat_eq (above_of new.blocks) 0) core after) put.limit
    ∙ ap (λ i. state_with (insert (files_of old.blocks) name (puts.plain_file old words)) (capacity_of old.blocks) (limit_of old.blocks) i (nat_eq (above_of new.blocks) 0) core after) put.info

-- the holds are not in a state
let_go_state : (mid new : MountState) (holds : List ℕ) (core : List ℕ) (jobs : List (Option plain.Job)) → new ≡ record mid { holds = holds } → state_over new core jobs ≡ state_over mid core jobs
let_go_state mid new holds core jobs is = ap (λ (m : MountState). state_over m core jobs) is

crowded : (old : MountState) (core : List ℕ) (jobs : List (Option plain.Job)) (wanted n : ℕ) → n < wanted → IsLargest old.blocks n → IsCrowded (state_over old core jobs) wanted n
crowded old core jobs wanted n short is = record { short = short; least = is.least; most = is.most; tight = λ low. is.tight (zero_is _ low) }

full : (old : MountState) (core : List ℕ) (jobs : List (Option plain.Job)) (after : Files) → IsOver old.blocks after → IsFull (state_over old core jobs) after
full old core jobs after is = record { files = is.files; tight = λ low. is.tight (zero_is _ low) }

-- ## The last turn

-- there was no memory for the target
pub no_target : (old : MountState) (core : List ℕ) (a : Assembly) (left : ℕ) → old.stopped ≡ false → old.tentative ≡ None → AssemblyFits a left → AssemblyStands old.blocks a left → TurnsJob old core (the_assembly a left) (Err fault.Memory) (Some (the_assembly a left)) old core
no_target old core a left running none fits is =
    on_by old old core a a left left (Err fault.Memory) refl (reads_keep old old old.reads old.failed_reads refl) none refl refl fits fits.more
    (quiet_over old old (Err fault.Memory) old.reads old.holds (λ quiet. quiet) running refl)
    (λ number l there named quiet. ap (state_over old core) (same_put number (plain.assembling a.to (names_of a.holds) left) l there))
    (λ number l there. same_put number (plain.assembling a.to (names_of a.holds) left) l there)
    (λ still. is) (λ still. omega arith) (λ other. absurd (other refl))
    (inl (refl, inl refl)) tt

-- the last turn of an assembly has no fault but want of memory
pub memory_of_asm : (sources : List (List ℕ)) (why : AsmFault) → MakesTarget sources (Err why) → fault_of_asm why ≡ fault.Memory
memory_of_asm sources (asm.At code line) made = absurd made
memory_of_asm sources asm.Memory made = refl

pub memory_of_file : (why : FileFault) → is_memory (fault_of_file why) ≡ true → why ≡ file.Memory
memory_of_file file.Memory is = refl
memory_of_file file.NotFound is = absurd (true≢false (sym is))
memory_of_file (file.NoRoom n) is = absurd (true≢false (sym is))
memory_of_file file.DirectoryFull is = absurd (true≢false (sym is))
memory_of_file (file.Busy n) is = absurd (true≢false (sym is))
memory_of_file file.BadName is = absurd (true≢false (sym is))
memory_of_file file.TooLong is = absurd (true≢false (sym is))
memory_of_file file.TentativeOpen is = absurd (true≢false (sym is))
memory_of_file file.Device is = absurd (true≢false (sym is))
memory_of_file file.Stopped is = absurd (true≢false (sym is))
memory_of_file file.NothingWritten is = absurd (true≢false (sym is))

-- there was no memory to put it
pub put_memory : (old new : MountState) (core : List ℕ) (a : Assembly) (left : ℕ) (words : List ℕ) → left ≡ 1 → AssemblyFits a left → AssemblyStands old.blocks a left → KeepsHolds old new → new.tentative ≡ None → PutsFile old a.to words (Err file.Memory) new → TurnsJob old core (the_assembly a left) (Err fault.Memory) (Some (the_assembly a left)) new core
put_memory old new core a left words one fits is keeps none put =
    on_by old new core a a left left (Err fault.Memory) refl keeps none refl refl fits fits.more
    (moved_over old new (Err fault.Memory) (λ quiet. quiet) put.0.running (ap (λ (m : MountState). m.failed_reads) put.2.others) (ap (λ (m : MountState). m.failed_writes) put.2.others) (ap (λ (m : MountState). m.stopped) put.2.others ∙ put.0.running))
    (λ number l there named quiet. kept_state old new (blocks_filled words) core _ put.2 ∙ ap (state_over old core) (same_put number (plain.assembling a.to (names_of a.holds) left) l there))
    (λ number l there. same_put number (plain.assembling a.to (names_of a.holds) left) l there)
    (λ still. record {
      there = subst (λ f. AreIn f (names_of a.holds)) (sym put.2.files) is.there;
      reads = subst (λ f. IsAssembling (words_in f (names_of a.holds)) a.assembling left) (sym put.2.files) is.reads;
    })
    (λ still. omega (arith, put.2.above)) (λ other. absurd (other refl))
    (inr (one, (words, Err file.Memory, new, put, refl))) tt

-- the target was put
pub put_done : ReleasedLaw → (old mid new : MountState) (core : List ℕ) (a : Assembly) (left name blocks : ℕ) (words : List ℕ) → left ≡ 1 → IsEnough old a → KeepsHolds old mid → mid.tentative ≡ None → name ≡ a.to → blocks ≡ blocks_in words
    → words ≡ assembled_words (sources_of old a) → fault_of (newest_first (sources_of old a)) ≡ None → IsTapeOfSources (sources_of old a) words
    → PutsFile old a.to words (Ok tt) mid → new ≡ record mid { holds = without_holds a.holds mid.holds } → TurnsJob old core (the_assembly a left) (Ok (Assembled name blocks)) None new core
put_done law old mid new core a left name blocks words one enough keeps none named count is no_fault means put gone =
    ended_by law old mid new core a left (Ok (Assembled name blocks)) keeps none gone enough (omega (arith, one))
    (moved_over old new (Ok (Assembled name blocks)) (λ quiet. quiet) put.ready.running
    (ap (λ (m : MountState). m.failed_reads) gone ∙ ap (λ (m : MountState). m.failed_reads) put.others) (ap (λ (m : MountState). m.failed_writes) gone ∙ ap (λ (m : MountState). m.failed_writes) put.others)
    (ap (λ (m : MountState). m.stopped) gone ∙ ap (λ (m : MountState). m.stopped) put.others ∙ put.ready.running))
    (λ number l there held quiet. (
      named,
      one,
      count ∙ ap blocks_in is,
      record {
        no_fault = no_fault;
        means = subst (λ w. IsTapeOfSources (sources_of old a) w) is means;
        put = record {
          free = sym (held a.to) ∙ put.free;
          tight = λ fresh low. ap (λ (m : MountState). nat_eq (above_of m.blocks) 0) gone ∙ ap (λ n. nat_eq n 0) (put.tight fresh (zero_is _ low));
          others =
              let_go_state mid new _ core _ gone
              ∙ put_state old mid a.to words core l (plain.with_disturbance (plain.with_job number None l)) put
              ∙ ap (λ t. record (state_over old core l) { files = insert (files_of old.blocks) a.to (plain_file (state_over old core l) words); tight = t; jobs = plain.with_disturbance (plain.with_job number None l) }) (ap (λ (m : MountState). nat_eq (above_of m.blocks) 0) (sym gone))
              ∙ ap (λ w. record (state_over old core l) { files = insert (files_of old.blocks) a.to (plain_file (state_over old core l) w); tight = nat_eq (above_of new.blocks) 0; jobs = plain.with_disturbance (plain.with_job number None l) }) is;
        };
      },
    ))
    (λ number l there. tt)
    (λ kind still. absurd (true≢false kind))
    (inr (one, (words, Ok tt, mid, put, gone ∙ ap (λ (m : MountState). record mid { holds = m.holds }) (sym gone)))) tt

-- the target was refused
pub put_refused : ReleasedLaw → (old mid new : MountState) (core : List ℕ) (a : Assembly) (left : ℕ) (words : List ℕ) (why : FileFault) → is_memory (fault_of_file why) ≡ false → left ≡ 1 → IsEnough old a → KeepsHolds old mid → mid.tentative ≡ None
    → old.stopped ≡ false → words ≡ assembled_words (sources_of old a) → fault_of (newest_first (sources_of old a)) ≡ None → (old.failed_writes < mid.failed_writes → Survives old.blocks mid.blocks)
    → PutsFile old a.to words (Err why) mid → new ≡ record mid { holds = without_holds a.holds mid.holds } → TurnsJob old core (the_assembly a left) (Err (fault_of_file why)) None new core
put_refused law old mid new core a left words (file.Busy other) memory one enough keeps none running is no_fault survives put gone =
    ended_by law old mid new core a left (Err (fault.File (file.Busy other))) keeps none gone enough (omega (arith, one))
    (quiet_over old new _ old.reads _ (λ quiet. quiet) running all)
    (λ number l there held quiet. (one, no_fault, (put.1, sym (held a.to) ∙ put.2), let_go_state old new _ core (plain.with_job number None l) all))
    (λ number l there. refl)
    (λ kind still. omega (arith, ap (λ (m : MountState). above_of m.blocks) put.3))
    (inr (one, (words, Err (file.Busy other), mid, put, gone ∙ ap (λ (m : MountState). record mid { holds = m.holds }) (sym gone)))) tt
  where
    all : new ≡ record old { holds = without_holds a.holds old.holds }
    all = gone ∙ ap (λ (m : MountState). record m { holds = without_holds a.holds m.holds }) put.3
put_refused law old mid new core a left words (file.NoRoom n) memory one enough keeps none running is no_fault survives put gone =
    ended_by law old mid new core a left (Err (fault.File (file.NoRoom n))) keeps none gone enough (omega (arith, one))
    (quiet_over old new _ old.reads _ (λ quiet. quiet) running all)
    (λ number l there held quiet. (one, no_fault, (sym (held a.to) ∙ put.1, subst (λ w. IsCrowded (state_over old core l) (blocks_in w) n) is (crowded old core l (blocks_in words) n put.2 put.3)), let_go_state old new _ core (plain.with_job number None l) all))
    (λ number l there. refl)
    (λ kind still. omega (arith, ap (λ (m : MountState). above_of m.blocks) put.4))
    (inr (one, (words, Err (file.NoRoom n), mid, put, gone ∙ ap (λ (m : MountState). record mid { holds = m.holds }) (sym gone)))) put.3
  where
    all : new ≡ record old { holds = without_holds a.holds old.holds }
    all = gone ∙ ap (λ (m : MountState). record m { holds = without_holds a.holds m.holds }) put.4
put_refused law old mid new core a left words file.DirectoryFull memory one enough keeps none running is no_fault survives put gone =
    ended_by law old mid new core a left (Err (fault.File file.DirectoryFull)) keeps none gone enough (omega (arith, one))
    (moved_over old new _ (λ quiet. quiet) running
    (ap (λ (m : MountState). m.failed_reads) gone ∙ ap (λ (m : MountState). m.failed_reads) put.3.others) (ap (λ (m : MountState). m.failed_writes) gone ∙ ap (λ (m : MountState). m.failed_writes) put.3.others)
    (ap (λ (m : MountState). m.stopped) gone ∙ ap (λ (m : MountState). m.stopped) put.3.others ∙ running))
    (λ number l there held quiet. (
      one,
      no_fault,
      (sym (held a.to) ∙ put.1, subst (λ w. IsFull (state_over old core l) (insert (files_of old.blocks) a.to (plain_file (state_over old core l) w))) is (full old core l _ put.2)),
      let_go_state mid new _ core (plain.with_job number None l) gone ∙ kept_state old mid (blocks_filled words) core (plain.with_job number None l) put.3,
    ))
    (λ number l there. refl)
    (λ kind still. omega (arith, put.3.above))
    (inr (one, (words, Err file.DirectoryFull, mid, put, gone ∙ ap (λ (m : MountState). record mid { holds = m.holds }) (sym gone)))) (subst (λ w. HasNoEntry old.blocks a.to w) is put.4)
put_refused law old mid new core a left words file.Device memory one enough keeps none running is no_fault survives put gone =
    ended_by law old mid new core a left (Err (fault.File file.Device)) keeps none gone enough (omega (arith, one))
    (record {
      tells = inr (record { running = running; writes = omega (arith, risen); stopped = ap (λ (m : MountState). m.stopped) gone ∙ ap (λ (m : MountState). m.stopped) put.others });
      reads = omega (arith, ap (λ (m : MountState). m.failed_reads) gone, ap (λ (m : MountState). m.failed_reads) put.others);
      writes = omega (arith, risen);
      running = λ quiet. absurd (more quiet.writes);
      files = λ rise. subst (λ (m : MountState). (x : List (List ℕ)) × (files_of x ≡ files_of old.blocks) × Survives x m.blocks) (sym gone) (old.blocks, refl, survives (omega (arith, ap (λ (m : MountState). m.failed_writes) put.others)));
    })
    (λ number l there held quiet. absurd (more quiet.writes))
    (λ number l there. refl)
    (λ kind still. absurd (true≢false (sym (ap (λ (m : MountState). m.stopped) put.others) ∙ still)))
    (inr (one, (words, Err file.Device, mid, put, gone ∙ ap (λ (m : MountState). record mid { holds = m.holds }) (sym gone)))) tt
  where
    risen : new.failed_writes ≡ old.failed_writes + 1
    risen = ap (λ (m : MountState). m.failed_writes) gone ∙ ap (λ (m : MountState). m.failed_writes) put.others

    more : new.failed_writes ≡ old.failed_writes → ⊥
    more same = omega (arith, same, risen)
put_refused law old mid new core a left words file.Stopped memory one enough keeps none running is no_fault survives put gone = absurd (true≢false (sym put.0 ∙ running))
put_refused law old mid new core a left words file.Memory memory one enough keeps none running is no_fault survives put gone = absurd (true≢false memory)
put_refused law old mid new core a left words file.NotFound memory one enough keeps none running is no_fault survives put gone = absurd put
put_refused law old mid new core a left words file.BadName memory one enough keeps none running is no_fault survives put gone = absurd put
put_refused law old mid new core a left words file.TooLong memory one enough keeps none running is no_fault survives put gone = absurd put
put_refused law old mid new core a left words file.TentativeOpen memory one enough keeps none running is no_fault survives put gone = absurd put
put_refused law old mid new core a left words file.NothingWritten memory one enough keeps none running is no_fault survives put gone = absurd put
