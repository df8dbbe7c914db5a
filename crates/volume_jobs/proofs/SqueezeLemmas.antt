-- Turns of a job that squeezes.
use Rattle.std.proofs.Common.{◌≡◌, ◌∙◌, inl, inr, ℕ, ◌-◌, ◌<◌, ◌≤◌, Bool, nat_eq, true, false, true≢false, Option, Some, None, List, [], Result, Ok, Err, refl, ap, sym, subst, arith}
use Rattle.std.proofs.lemmas.Bool.Decides.{eqb_tells}
use Rattle.os8_dir.specs.Files.{Files, files_of, capacity_of, limit_of, above_of}
use Rattle.os8_files.specs.Calls.{Squeezes, HasMoved, HasMissed, MoveFailed, info_of}
use Rattle.os8_files.specs.Failed.{Survives}
use Rattle.os8_files.specs.Holds.{times}
use Rattle.os8_files.specs.Laws.{KeepsHolds}
use Rattle.os8_files.specs.Mounted.{MountState, NewFile}
use Rattle.os8_dir.specs.declared.file_faults.FileFault.{FileFault}
use Rattle.os8_dir.specs.declared.file_faults.FileFault.TheVariants as file
use Rattle.os8_files.specs.declared.tokens.Squeezed as tokens
use Rattle.os8_files.specs.declared.tokens.Squeezed.TheVariants as token
use Rattle.volume_jobs.specs.Calls.{NoCallFailed, TurnsOver, LeavesJobs, TellsSqueeze, WorkTellsRoom}
use Rattle.volume_jobs.specs.Steps.{SqueezeTurns, TurnsJob, plain_after, names_in, turns_of, is_assembled}
use Rattle.volume_jobs.specs.Jobs as plain
use Rattle.volume_jobs.specs.Jobs.{with_job, job_of, squeezing}
use Rattle.volume_jobs.specs.Settled.{IsSqueezing, state_over, plain_job, StandsIn, FitsIn}
use Rattle.volume_jobs.specs.State.{State}
use Rattle.volume_jobs.specs.Turns.{Answer, SqueezingTurn}
use Rattle.volume_jobs.specs.declared.kinds.Job.{Job}
use Rattle.volume_jobs.specs.declared.kinds.Work.TheVariants as work
use Rattle.volume_jobs.specs.declared.turned.Turned.TheVariants.{Working, Squeezed}
use Rattle.volume_jobs.specs.declared.faults.JobFault.TheVariants as fault
use Rattle.volume_jobs.proofs.StepLemmas.{moved_over, quiet_over, missed_over, stood_over, same_put, of_each}

-- a squeezing job of the code
abbrev pub the_job : Bool → ℕ → Job
the_job clean left = record { work = work.Squeezing clean; turns = left }

none_above : (n : ℕ) → n ≡ 0 → nat_eq n 0 ≡ true
none_above n is = ap (λ k. nat_eq k 0) is

some_above : (n : ℕ) → 0 < n → nat_eq n 0 ≡ false
some_above n some = elim (eqb_tells n 0) [
  | inl same ↦ absurd (never same.1)
  | inr other ↦ other.0
]
  where
    never : n ≡ 0 → ⊥
    never is = omega (arith, some, is)

-- a file was moved: nothing of the state is changed but what is tight
state_moved : (old new : MountState) (core : List ℕ) (jobs after : List (Option plain.Job)) (name : ℕ) → HasMoved old name new
    → state_over new core after ≡ record (state_over old core jobs) { tight = nat_eq (above_of new.blocks) 0; jobs = after }
state_moved old new core jobs after name moved =
    ap (λ f. at f (capacity_of new.blocks) (limit_of new.blocks) (info_of new.blocks)) moved.files
    ∙ ap (λ c. at (files_of old.blocks) c (limit_of new.blocks) (info_of new.blocks)) moved.capacity
    ∙ ap (λ l. at (files_of old.blocks) (capacity_of old.blocks) l (info_of new.blocks)) moved.limit
    ∙ ap (λ i. at (files_of old.blocks) (capacity_of old.blocks) (limit_of old.blocks) i) moved.info
  where
    at : Files → ℕ → ℕ → ℕ → State
    at f c l i = record { files = f; capacity = c; limit = l; info = i; tight = nat_eq (above_of new.blocks) 0; core = core; jobs = after }

-- what a call leaves, whatever it answers
turn_by : (old new : MountState) (core : List ℕ) (clean : Bool) (left : ℕ) (call : Result tokens.Squeezed FileFault) (answer : Answer) (after : Option Job) → is_assembled answer ≡ false → KeepsHolds old new → Squeezes old call new → new.tentative ≡ None → (new.stopped ≡ false → above_of new.blocks ≤ above_of old.blocks)
    → ((number : ℕ) (jobs : List (Option plain.Job)) → job_of number jobs ≡ Some (squeezing clean left) → NoCallFailed old new → SqueezingTurn (state_over old core jobs) number clean left answer (state_over new core (with_job number (plain_job after) jobs)))
    → ((number : ℕ) (jobs : List (Option plain.Job)) → job_of number jobs ≡ Some (squeezing clean left) → LeavesJobs number answer jobs (with_job number (plain_job after) jobs))
    → TurnsOver old answer new → (new.stopped ≡ false → StandsIn new.blocks after) → FitsIn after → ((name : ℕ) → times name (names_in after) ≡ 0) → ((answer ≡ Err fault.Memory → ⊥) → turns_of after < left) → TellsSqueeze left old answer new
    → TurnsJob old core (the_job clean left) answer after new core
turn_by old new core clean left call answer after other keeps squeezes none above step jobs volume stands fits names fewer tells = record {
  step = λ number l there named quiet. subst (λ b. SqueezingTurn (state_over old core l) number clean left answer (state_over new core (plain_after b (with_job number (plain_job after) l)))) (sym other) (step number l there quiet);
  jobs = jobs;
  volume = volume;
  same_core = λ why told. refl;
  stands = stands;
  fits = fits;
  holds = λ name. omega (arith, ap (times name) keeps.holds, names name);
  running = keeps.running;
  none = none;
  kept = keeps.held;
  above = λ kind. above;
  fewer = fewer;
  calls = (call, squeezes);
  squeezed = λ clean is. tells;
  room = of_each (WorkTellsRoom (plain.Squeezing clean) old) (λ why. tt) answer;
}

-- the answer and the job after it, by what they are
told : (old new : MountState) (core : List ℕ) (job : Job) (a answer : Answer) (o after : Option Job) → answer ≡ a → after ≡ o → TurnsJob old core job a o new core → TurnsJob old core job answer after new core
told old new core job a answer o after is_a is_o turns = subst (λ x. TurnsJob old core job x after new core) (sym is_a) (subst (λ x. TurnsJob old core job a x new core) (sym is_o) turns)

no_names : (name : ℕ) → times name [] ≡ 0
no_names name = refl

-- a file was moved
moved_on : (old new : MountState) (core : List ℕ) (clean : Bool) (left name : ℕ) → (old.stopped ≡ false → IsSqueezing old.blocks clean left) → KeepsHolds old new → HasMoved old name new → 2 ≤ left → TurnsJob old core (the_job clean left) (Ok Working) (Some (the_job clean (left - 1))) new core
moved_on old new core clean left name is keeps moved more =
    turn_by old new core clean left (Ok (token.Moved name)) (Ok Working) (Some (the_job clean (left - 1))) refl keeps moved
    (ap (λ (m : MountState). m.tentative) moved.others ∙ moved.ready.none) (λ running. omega (arith, moved.above))
    (λ number jobs there quiet. (
      more,
      some_above (above_of old.blocks) (omega (arith, moved.above)),
      record {
        tight = λ tight. absurd (true≢false (sym tight ∙ some_above (above_of old.blocks) (omega (arith, moved.above))));
        others = state_moved old new core jobs _ name moved;
      },
    ))
    (λ number jobs there. tt)
    (quiet_moved old new name moved)
    (λ running. record { more = omega (arith, more); enough = λ it_is. omega (arith, moved.above, (is moved.ready.running).enough it_is) })
    (omega (arith, more)) no_names (λ other. omega (arith, more)) (more, name, moved)
  where
    quiet_moved : (old new : MountState) (name : ℕ) → HasMoved old name new → TurnsOver old (Ok Working) new
    quiet_moved old new name moved = moved_over old new (Ok Working) (λ quiet. quiet) moved.ready.running
        (ap (λ (m : MountState). m.failed_reads) moved.others) (ap (λ (m : MountState). m.failed_writes) moved.others) (ap (λ (m : MountState). m.stopped) moved.others ∙ moved.ready.running)

-- a file was moved at the last turn
moved_last : (old new : MountState) (core : List ℕ) (clean : Bool) (left name : ℕ) → (old.stopped ≡ false → IsSqueezing old.blocks clean left) → KeepsHolds old new → HasMoved old name new → left ≡ 1 → TurnsJob old core (the_job clean left) (Ok Squeezed) None new core
moved_last old new core clean left name is keeps moved one =
    turn_by old new core clean left (Ok (token.Moved name)) (Ok Squeezed) None refl keeps moved
    (ap (λ (m : MountState). m.tentative) moved.others ∙ moved.ready.none) (λ running. omega (arith, moved.above))
    (λ number jobs there quiet. (
      inl one,
      λ it_is. absurd (never it_is),
      record {
        tight = λ tight. absurd (true≢false (sym tight ∙ some_above (above_of old.blocks) (omega (arith, moved.above))));
        others = state_moved old new core jobs _ name moved;
      },
    ))
    (λ number jobs there. tt)
    (moved_over old new (Ok Squeezed) (λ quiet. quiet) moved.ready.running
    (ap (λ (m : MountState). m.failed_reads) moved.others) (ap (λ (m : MountState). m.failed_writes) moved.others) (ap (λ (m : MountState). m.stopped) moved.others ∙ moved.ready.running))
    (λ running. tt) tt no_names (λ other. omega (arith, one)) (inl (one, name, moved))
  where
    -- a clean job has more turns than files have a free block below them
    never : clean ≡ true → ⊥
    never it_is = omega (arith, one, moved.above, (is moved.ready.running).enough it_is)

-- nothing is changed
same_by : (old new : MountState) (core : List ℕ) (clean : Bool) (left : ℕ) (call : Result tokens.Squeezed FileFault) (answer : Answer) (after : Option Job) → is_assembled answer ≡ false → KeepsHolds old new → Squeezes old call new → old.tentative ≡ None → new ≡ old
    → ((number : ℕ) (jobs : List (Option plain.Job)) → job_of number jobs ≡ Some (squeezing clean left) → NoCallFailed old new → SqueezingTurn (state_over old core jobs) number clean left answer (state_over new core (with_job number (plain_job after) jobs)))
    → ((number : ℕ) (jobs : List (Option plain.Job)) → job_of number jobs ≡ Some (squeezing clean left) → LeavesJobs number answer jobs (with_job number (plain_job after) jobs))
    → TurnsOver old answer new → (new.stopped ≡ false → StandsIn new.blocks after) → FitsIn after → ((name : ℕ) → times name (names_in after) ≡ 0) → ((answer ≡ Err fault.Memory → ⊥) → turns_of after < left) → TellsSqueeze left old answer new
    → TurnsJob old core (the_job clean left) answer after new core
same_by old new core clean left call answer after other keeps squeezes none is step jobs volume stands fits names fewer tells =
    turn_by old new core clean left call answer after other keeps squeezes (ap (λ (m : MountState). m.tentative) is ∙ none) (λ running. omega (arith, ap (λ (m : MountState). above_of m.blocks) is)) step jobs volume stands fits names fewer tells

-- What a turn of a job that squeezes comes to, by the answer of its one call.
pub squeezed_turn : (old new : MountState) (core : List ℕ) (clean : Bool) (left : ℕ) (call : Result tokens.Squeezed FileFault) (answer : Answer) (after : Option Job) → old.tentative ≡ None → 1 ≤ left → (old.stopped ≡ false → IsSqueezing old.blocks clean left)
    → KeepsHolds old new → (old.failed_writes < new.failed_writes → Survives old.blocks new.blocks) → Squeezes old call new → SqueezeTurns clean left call answer after → TurnsJob old core (the_job clean left) answer after new core
squeezed_turn old new core clean left (Ok (token.Moved name)) answer after none some is keeps survives call turns = elim turns [
  | inl on ↦ told old new core (the_job clean left) (Ok Working) answer (Some (the_job clean (left - 1))) after on.1 on.2 (moved_on old new core clean left name is keeps call on.0)
  | inr last ↦ told old new core (the_job clean left) (Ok Squeezed) answer None after last.1 last.2 (moved_last old new core clean left name is keeps call last.0)
]
squeezed_turn old new core clean left (Ok token.Nothing) answer after none some is keeps survives call turns =
    told old new core (the_job clean left) (Ok Squeezed) answer None after turns.0 turns.1
    (same_by old new core clean left (Ok token.Nothing) (Ok Squeezed) None refl keeps call none call.2
    (λ number jobs there quiet. (
      inr (none_above (above_of old.blocks) call.1),
      λ it_is. none_above (above_of new.blocks) (ap (λ (m : MountState). above_of m.blocks) call.2 ∙ call.1),
      record {
        tight = λ tight. none_above (above_of new.blocks) (ap (λ (m : MountState). above_of m.blocks) call.2 ∙ call.1);
        others =
            ap (λ (m : MountState). state_over m core (with_job number None jobs)) call.2
            ∙ ap (λ (m : MountState). record (state_over old core jobs) { tight = nat_eq (above_of m.blocks) 0; jobs = with_job number None jobs }) (sym call.2);
      },
    ))
    (λ number jobs there. tt) (quiet_over old new (Ok Squeezed) old.reads old.holds (λ quiet. quiet) call.0.running call.2) (λ running. tt) tt no_names (λ other. omega (arith, some)) (inr call))
squeezed_turn old new core clean left (Err file.Memory) answer after none some is keeps survives call turns =
    told old new core (the_job clean left) (Err fault.Memory) answer (Some (the_job clean left)) after turns.0 turns.1
    (same_by old new core clean left (Err file.Memory) (Err fault.Memory) (Some (the_job clean left)) refl keeps call none call.2
    (λ number jobs there quiet. ap (λ (m : MountState). state_over m core (with_job number (Some (squeezing clean left)) jobs)) call.2 ∙ ap (state_over old core) (same_put number (squeezing clean left) jobs there))
    (λ number jobs there. same_put number (squeezing clean left) jobs there)
    (quiet_over old new (Err fault.Memory) old.reads old.holds (λ quiet. quiet) call.0.running call.2)
    (λ running. subst (λ (m : MountState). IsSqueezing m.blocks clean left) (sym call.2) (is call.0.running)) some no_names (λ other. absurd (other refl)) call)
squeezed_turn old new core clean left (Err file.DirectoryFull) answer after none some is keeps survives call turns =
    told old new core (the_job clean left) (Err (fault.File file.DirectoryFull)) answer None after turns.0 turns.1
    (same_by old new core clean left (Err file.DirectoryFull) (Err (fault.File file.DirectoryFull)) None refl keeps call none call.7
    (λ number jobs there quiet. (some_above (above_of old.blocks) call.5, call.6.files, ap (λ (m : MountState). state_over m core (with_job number None jobs)) call.7))
    (λ number jobs there. refl) (quiet_over old new _ old.reads old.holds (λ quiet. quiet) call.0.running call.7) (λ running. tt) tt no_names (λ other. omega (arith, some)) call)
squeezed_turn old new core clean left (Err file.Stopped) answer after none some is keeps survives call turns =
    told old new core (the_job clean left) (Err (fault.File file.Stopped)) answer None after turns.0 turns.1
    (same_by old new core clean left (Err file.Stopped) (Err (fault.File file.Stopped)) None refl keeps call none call.1
    (λ number jobs there quiet. absurd (true≢false (sym call.0 ∙ quiet.running)))
    (λ number jobs there. refl) (stood_over old new old.holds call.0 call.1) (λ running. tt) tt no_names (λ other. omega (arith, some)) call)
squeezed_turn old new core clean left (Err file.Device) answer after none some is keeps survives call turns =
    told old new core (the_job clean left) (Err (fault.File file.Device)) answer None after turns.0 turns.1
    (elim call [
      | inl missed ↦ turn_by old new core clean left (Err file.Device) (Err (fault.File file.Device)) None refl keeps (inl missed) (ap (λ (m : MountState). m.tentative) missed.1 ∙ none)
          (λ running. omega (arith, ap (λ (m : MountState). above_of m.blocks) missed.1))
          (λ number jobs there quiet. absurd (more_reads missed.1 quiet.reads))
          (λ number jobs there. refl)
          (missed_over old new new.reads old.holds missed.0.running missed.1)
          (λ running. tt) tt no_names (λ other. omega (arith, some)) (inl missed)
      | inr failed ↦ turn_by old new core clean left (Err file.Device) (Err (fault.File file.Device)) None refl keeps (inr failed) (ap (λ (m : MountState). m.tentative) failed.others ∙ none)
          (λ running. absurd (true≢false (sym (ap (λ (m : MountState). m.stopped) failed.others) ∙ running)))
          (λ number jobs there quiet. absurd (more_writes failed quiet.writes))
          (λ number jobs there. refl)
          (record {
            tells = inr (record { running = failed.ready.running; writes = omega (arith, ap (λ (m : MountState). m.failed_writes) failed.others); stopped = ap (λ (m : MountState). m.stopped) failed.others });
            reads = omega (arith, ap (λ (m : MountState). m.failed_reads) failed.others);
            writes = omega (arith, ap (λ (m : MountState). m.failed_writes) failed.others);
            running = λ quiet. absurd (more_writes failed quiet.writes);
            files = λ more. (old.blocks, refl, survives more);
          })
          (λ running. tt) tt no_names (λ other. omega (arith, some)) (inr failed)
    ])
  where
    more_reads : HasMissed old new → new.failed_reads ≡ old.failed_reads → ⊥
    more_reads missed same = omega (arith, same, ap (λ (m : MountState). m.failed_reads) missed)

    more_writes : MoveFailed old new → new.failed_writes ≡ old.failed_writes → ⊥
    more_writes failed same = omega (arith, same, ap (λ (m : MountState). m.failed_writes) failed.others)
squeezed_turn old new core clean left (Err file.TentativeOpen) answer after none some is keeps survives call turns = absurd (never call.1 (sym none ∙ call.2))
  where
    never : (begun : NewFile) → None ≡ Some begun → ⊥
    never begun e = cc
squeezed_turn old new core clean left (Err file.NotFound) answer after none some is keeps survives call turns = absurd call
squeezed_turn old new core clean left (Err (file.NoRoom n)) answer after none some is keeps survives call turns = absurd call
squeezed_turn old new core clean left (Err (file.Busy n)) answer after none some is keeps survives call turns = absurd call
squeezed_turn old new core clean left (Err file.BadName) answer after none some is keeps survives call turns = absurd call
squeezed_turn old new core clean left (Err file.TooLong) answer after none some is keeps survives call turns = absurd call
squeezed_turn old new core clean left (Err file.NothingWritten) answer after none some is keeps survives call turns = absurd call
