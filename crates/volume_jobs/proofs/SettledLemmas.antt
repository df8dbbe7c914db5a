-- What stands between entries stays.
use Rattle.std.proofs.Common.{◌≡◌, ◌∙◌, ℕ, ◌+◌, ◌<◌, ◌≤◌, nat_lt, Bool, true, false, Option, Some, None, List, [], ◌∷◌, zero, suc, length-set, slice_set, get_or, length, refl, ap, sym, subst, arith}
use Rattle.std.specs.FinMap.{get}
use Rattle.os8_dir.specs.Entries.{contains}
use Rattle.os8_dir.specs.Files.{files_of, above_of}
use Rattle.os8_files.specs.Holds.{times}
use Rattle.os8_files.specs.Laws.{KeepsHeld, KeepsHolds}
use Rattle.os8_files.specs.Mounted.{MountState}
use Rattle.volume_jobs.specs.Steps.{TurnsJob, names_in, jobs_after, is_assembled}
use Rattle.volume_jobs.specs.Jobs.{names_of_jobs, held_by_work}
use Rattle.volume_jobs.specs.Settled.{work_of, plain_jobs, with_disturbance, disturbed_job, disturbed_work, Stands, StandsIn, AllStand, FitsIn, AllFit, AreHeld, IsSettled}
use Rattle.pal_blocks.specs.Progress.{IsAssembling}
use Rattle.volume_jobs.specs.Sources.{names_of, AssemblyStands}
use Rattle.volume_jobs.specs.declared.assembly.Assembly.{Assembly}
use Rattle.volume_jobs.specs.Turns.{Answer}
use Rattle.volume_jobs.specs.declared.kinds.Job.{Job}
use Rattle.volume_jobs.specs.declared.kinds.Work.{Work}
use Rattle.volume_jobs.specs.declared.kinds.Work.TheVariants as work
use Rattle.volume_jobs.proofs.PlaceLemmas.{same_words, same_there}
use Rattle.volume_jobs.proofs.TimesLemmas.{more_than_none, times-append, self_once}

-- a name is held where it stands among the holds at least once
abbrev pub HeldLaw : Type 0
HeldLaw = (name : ℕ) (holds : List ℕ) → contains holds name ≡ nat_lt 0 (times name holds)

-- ## Jobs

-- the files of these names are the same
abbrev pub AreSame : List (List ℕ) → List (List ℕ) → List ℕ → Type 0
AreSame old new names = (name : ℕ) → 1 ≤ times name names → get (files_of new) name ≡ get (files_of old) name

at_least : (name : ℕ) → 1 ≤ times name (name ∷ [])
at_least name = omega (arith, self_once name)

assembly_on : (old new : List (List ℕ)) (a : Assembly) (left : ℕ) → AreSame old new (names_of a.holds) → AssemblyStands old a left → AssemblyStands new a left
assembly_on old new a left same stands = record {
  there = same_there (files_of old) (files_of new) (names_of a.holds) same stands.there;
  reads = subst (λ w. IsAssembling w a.assembling left) (sym (same_words (files_of old) (files_of new) (names_of a.holds) same)) stands.reads;
}

stands_on : (old new : List (List ℕ)) (it : Work) (left : ℕ) → AreSame old new (held_by_work (work_of it)) → above_of new ≤ above_of old → Stands old it left → Stands new it left
stands_on old new (work.Loading it) left same fewer stands = (stands.0, (stands.1.0, same it.hold (at_least it.hold) ∙ stands.1.1), stands.2)
stands_on old new (work.Assembling a) left same fewer stands = assembly_on old new a left same stands
stands_on old new (work.Squeezing clean) left same fewer stands = record { more = stands.more; enough = λ is. omega (arith, fewer, stands.enough is) }

-- jobs stand on where the files that they hold are the same, and no more files have a free block below them
pub all_stand_on : (old new : List (List ℕ)) (jobs : List (Option Job)) → AreSame old new (names_of_jobs (plain_jobs jobs)) → above_of new ≤ above_of old → AllStand old jobs → AllStand new jobs
all_stand_on old new [] same fewer stand = tt
all_stand_on old new (None ∷ jobs) same fewer stand = (tt, all_stand_on old new jobs same fewer stand.1)
all_stand_on old new (Some it ∷ jobs) same fewer stand = (
  stands_on old new it.work it.turns (λ name some. same name (omega (arith, some, times-append name (held_by_work (work_of it.work)) (names_of_jobs (plain_jobs jobs))))) fewer stand.0,
  all_stand_on old new jobs (λ name some. same name (omega (arith, some, times-append name (held_by_work (work_of it.work)) (names_of_jobs (plain_jobs jobs))))) fewer stand.1,
)

pub stand_set : (blocks : List (List ℕ)) (jobs : List (Option Job)) (place : ℕ) (after : Option Job) → AllStand blocks jobs → StandsIn blocks after → AllStand blocks (slice_set jobs place after)
stand_set blocks [] place after stand stands = tt
stand_set blocks (it ∷ jobs) zero after stand stands = (stands, stand.1)
stand_set blocks (it ∷ jobs) (suc place) after stand stands = (stand.0, stand_set blocks jobs place after stand.1 stands)

pub stand_at : (blocks : List (List ℕ)) (jobs : List (Option Job)) (place : ℕ) → AllStand blocks jobs → StandsIn blocks (get_or jobs place None)
stand_at blocks [] place stand = tt
stand_at blocks (it ∷ jobs) zero stand = stand.0
stand_at blocks (it ∷ jobs) (suc place) stand = stand_at blocks jobs place stand.1

fit_set : (jobs : List (Option Job)) (place : ℕ) (after : Option Job) → AllFit jobs → FitsIn after → AllFit (slice_set jobs place after)
fit_set [] place after fit fits = tt
fit_set (it ∷ jobs) zero after fit fits = (fits, fit.1)
fit_set (it ∷ jobs) (suc place) after fit fits = (fit.0, fit_set jobs place after fit.1 fits)

pub fit_at : (jobs : List (Option Job)) (place : ℕ) → AllFit jobs → FitsIn (get_or jobs place None)
fit_at [] place fit = tt
fit_at (it ∷ jobs) zero fit = fit.0
fit_at (it ∷ jobs) (suc place) fit = fit_at jobs place fit.1

-- ## Names

held_more : (name : ℕ) (it : Option Job) (jobs : List (Option Job)) → times name (names_of_jobs (plain_jobs (it ∷ jobs))) ≡ times name (names_in it) + times name (names_of_jobs (plain_jobs jobs))
held_more name None jobs = omega arith
held_more name (Some it) jobs = times-append name (held_by_work (work_of it.work)) (names_of_jobs (plain_jobs jobs))

-- what another job, or none, at a place does to the names that are held
pub times_put : (name : ℕ) (jobs : List (Option Job)) (place : ℕ) (after : Option Job) → place < length jobs
    → times name (names_of_jobs (plain_jobs (slice_set jobs place after))) + times name (names_in (get_or jobs place None)) ≡ times name (names_of_jobs (plain_jobs jobs)) + times name (names_in after)
times_put name [] place after inside = absurd (omega (arith, inside))
times_put name (it ∷ jobs) zero after inside = omega (arith, held_more name after jobs, held_more name it jobs)
times_put name (it ∷ jobs) (suc place) after inside = omega (arith, held_more name it (slice_set jobs place after), held_more name it jobs, times_put name jobs place after (omega (arith, inside)))

-- the names that a job at a place holds are held as often
pub held_enough : (volume : MountState) (jobs : List (Option Job)) (place : ℕ) (it : Job) (name : ℕ) → IsSettled volume jobs → place < length jobs → get_or jobs place None ≡ Some it → times name (names_in (Some it)) ≤ times name volume.holds
held_enough volume jobs place it name settled inside is =
    omega (arith, settled.held name, times_put name jobs place None inside, ap (λ o. times name (names_in o)) is)

-- files that jobs hold are the same after what keeps files that are held
same_files : HeldLaw → (old new : MountState) (jobs : List (Option Job)) → AreHeld old.holds jobs → KeepsHeld old new → new.stopped ≡ false → AreSame old.blocks new.blocks (names_of_jobs (plain_jobs jobs))
same_files law old new jobs held kept running name some = kept name (law name old.holds ∙ more_than_none (times name old.holds) (omega (arith, some, held name))) running

-- ## Calls

-- after the beginning of a job that holds so many names more
pub settled_begun : (old new : MountState) (jobs : List (Option Job)) (place : ℕ) (it : Option Job) (holds : List ℕ) → IsSettled old jobs → place < length jobs → get_or jobs place None ≡ None
    → new ≡ record old { holds = holds } → ((name : ℕ) → times name holds ≡ times name (names_in it) + times name old.holds) → FitsIn it → (old.stopped ≡ false → StandsIn old.blocks it) → IsSettled new (slice_set jobs place it)
settled_begun old new jobs place it holds settled inside free is more fits stands = record {
  none = ap (λ (m : MountState). m.tentative) is ∙ settled.none;
  places = length-set jobs place it ∙ settled.places;
  held = λ name. omega (arith, ap (λ (m : MountState). times name m.holds) is, more name, settled.held name, times_put name jobs place it inside, ap (λ o. times name (names_in o)) free);
  fit = fit_set jobs place it settled.fit fits;
  stand = λ running.
      let before = sym (ap (λ (m : MountState). m.stopped) is) ∙ running in
      subst (λ (m : MountState). AllStand m.blocks (slice_set jobs place it)) (sym is) (stand_set old.blocks jobs place it (settled.stand before) (stands before));
}

-- after calls of other entries that leave the directory as it is, or move files down
pub settled_on : HeldLaw → (old new : MountState) (jobs : List (Option Job)) → IsSettled old jobs → KeepsHolds old new → new.tentative ≡ None → (new.stopped ≡ false → above_of new.blocks ≤ above_of old.blocks) → IsSettled new jobs
settled_on law old new jobs settled keeps none fewer = record {
  none = none;
  places = settled.places;
  held = λ name. ap (times name) keeps.holds ∙ settled.held name;
  fit = settled.fit;
  stand = λ running. all_stand_on old.blocks new.blocks jobs (same_files law old new jobs settled.held keeps.held running) (fewer running) (settled.stand (keeps.running running));
}

-- ## Disturbed jobs

disturbed_stands : (old new : List (List ℕ)) (it : Work) (left : ℕ) → AreSame old new (held_by_work (work_of it)) → Stands old it left → Stands new (disturbed_work it) left
disturbed_stands old new (work.Loading it) left same stands = (stands.0, (stands.1.0, same it.hold (at_least it.hold) ∙ stands.1.1), stands.2)
disturbed_stands old new (work.Assembling a) left same stands = assembly_on old new a left same stands
disturbed_stands old new (work.Squeezing clean) left same stands = record { more = stands.more; enough = λ is. absurd (never is) }
  where
    never : false ≡ true → ⊥
    never e = cc

all_disturbed : (old new : List (List ℕ)) (jobs : List (Option Job)) → AreSame old new (names_of_jobs (plain_jobs jobs)) → AllStand old jobs → AllStand new (with_disturbance jobs)
all_disturbed old new [] same stand = tt
all_disturbed old new (None ∷ jobs) same stand = (tt, all_disturbed old new jobs same stand.1)
all_disturbed old new (Some it ∷ jobs) same stand = (
  disturbed_stands old new it.work it.turns (λ name some. same name (omega (arith, some, times-append name (held_by_work (work_of it.work)) (names_of_jobs (plain_jobs jobs))))) stand.0,
  all_disturbed old new jobs (λ name some. same name (omega (arith, some, times-append name (held_by_work (work_of it.work)) (names_of_jobs (plain_jobs jobs))))) stand.1,
)

disturbed_names : (it : Option Job) → names_in (disturbed_job it) ≡ names_in it
disturbed_names None = refl
disturbed_names (Some it) = by_work it.work
  where
    by_work : (w : Work) → held_by_work (work_of (disturbed_work w)) ≡ held_by_work (work_of w)
    by_work (work.Loading l) = refl
    by_work (work.Assembling a) = refl
    by_work (work.Squeezing clean) = refl

disturbed_held : (name : ℕ) (jobs : List (Option Job)) → times name (names_of_jobs (plain_jobs (with_disturbance jobs))) ≡ times name (names_of_jobs (plain_jobs jobs))
disturbed_held name [] = refl
disturbed_held name (it ∷ jobs) = omega (arith, held_more name (disturbed_job it) (with_disturbance jobs), held_more name it jobs, ap (times name) (disturbed_names it), disturbed_held name jobs)

disturbed_fit : (jobs : List (Option Job)) → AllFit jobs → AllFit (with_disturbance jobs)
disturbed_fit [] fit = tt
disturbed_fit (None ∷ jobs) fit = (tt, disturbed_fit jobs fit.1)
disturbed_fit (Some it ∷ jobs) fit = (by_work it.work it.turns fit.0, disturbed_fit jobs fit.1)
  where
    by_work : (w : Work) (left : ℕ) → FitsIn (Some (record { work = w; turns = left })) → FitsIn (Some (record { work = disturbed_work w; turns = left }))
    by_work (work.Loading l) left fits = fits
    by_work (work.Assembling a) left fits = fits
    by_work (work.Squeezing clean) left fits = fits

disturbed_length : (jobs : List (Option Job)) → length (with_disturbance jobs) ≡ length jobs
disturbed_length [] = refl
disturbed_length (it ∷ jobs) = ap suc (disturbed_length jobs)

-- after calls of other entries that change the directory
pub settled_disturbed : HeldLaw → (old new : MountState) (jobs : List (Option Job)) → IsSettled old jobs → KeepsHolds old new → new.tentative ≡ None → IsSettled new (with_disturbance jobs)
settled_disturbed law old new jobs settled keeps none = record {
  none = none;
  places = disturbed_length jobs ∙ settled.places;
  held = λ name. ap (times name) keeps.holds ∙ settled.held name ∙ sym (disturbed_held name jobs);
  fit = disturbed_fit jobs settled.fit;
  stand = λ running. all_disturbed old.blocks new.blocks jobs (same_files law old new jobs settled.held keeps.held running) (settled.stand (keeps.running running));
}

-- a name is held just where a job holds it
pub held_same : HeldLaw → (volume : MountState) (jobs : List (Option Job)) (name : ℕ) → IsSettled volume jobs → contains volume.holds name ≡ contains (names_of_jobs (plain_jobs jobs)) name
held_same law volume jobs name settled = law name volume.holds ∙ ap (λ n. nat_lt 0 n) (settled.held name) ∙ sym (law name (names_of_jobs (plain_jobs jobs)))

-- ## Turns

disturbed_set : (jobs : List (Option Job)) (place : ℕ) (after : Option Job) → slice_set (with_disturbance jobs) place (disturbed_job after) ≡ with_disturbance (slice_set jobs place after)
disturbed_set [] place after = refl
disturbed_set (it ∷ jobs) zero after = refl
disturbed_set (it ∷ jobs) (suc place) after = ap (λ l. disturbed_job it ∷ l) (disturbed_set jobs place after)

disturbed_in : (blocks : List (List ℕ)) (after : Option Job) → StandsIn blocks after → StandsIn blocks (disturbed_job after)
disturbed_in blocks None stands = tt
disturbed_in blocks (Some it) stands = disturbed_stands blocks blocks it.work it.turns (λ name some. refl) stands

-- after a turn of a job
pub settled_turn : HeldLaw → (old new : MountState) (core core2 : List ℕ) (jobs : List (Option Job)) (place : ℕ) (it : Job) (answer : Answer) (after : Option Job) → IsSettled old jobs → place < length jobs → get_or jobs place None ≡ Some it
    → TurnsJob old core it answer after new core2 → IsSettled new (jobs_after (is_assembled answer) (slice_set jobs place after))
settled_turn law old new core core2 jobs place it answer after settled inside is turns = by_answer (is_assembled answer) refl
  where
    held : AreHeld new.holds (slice_set jobs place after)
    held name = omega (arith, turns.holds name, settled.held name, times_put name jobs place after inside, ap (λ o. times name (names_in o)) is)

    fit : AllFit (slice_set jobs place after)
    fit = fit_set jobs place after settled.fit turns.fits

    by_answer : (b : Bool) → is_assembled answer ≡ b → IsSettled new (jobs_after b (slice_set jobs place after))
    by_answer true put = record {
      none = turns.none;
      places = disturbed_length (slice_set jobs place after) ∙ length-set jobs place after ∙ settled.places;
      held = λ name. held name ∙ sym (disturbed_held name (slice_set jobs place after));
      fit = disturbed_fit (slice_set jobs place after) fit;
      stand = λ running.
          subst (AllStand new.blocks) (disturbed_set jobs place after)
          (stand_set new.blocks (with_disturbance jobs) place (disturbed_job after)
          (all_disturbed old.blocks new.blocks jobs (same_files law old new jobs settled.held turns.kept running) (settled.stand (turns.running running)))
          (disturbed_in new.blocks after (turns.stands running)));
    }
    by_answer false other = record {
      none = turns.none;
      places = length-set jobs place after ∙ settled.places;
      held = held;
      fit = fit;
      stand = λ running.
          stand_set new.blocks jobs place after
          (all_stand_on old.blocks new.blocks jobs (same_files law old new jobs settled.held turns.kept running) (turns.above other running) (settled.stand (turns.running running)))
          (turns.stands running);
    }
