-- What the table does for entries.
use Rattle.std.proofs.Common.{◌≡◌, ◌∙◌, ℕ, ◌+◌, ◌<◌, ◌≤◌, suc, add-one, Bool, true, false, true≢false, Option, Some, None, List, [], ◌∷◌, length, slice_set, get_or, Ok, Err, refl, ap, sym, subst, arith, inl, inr}
use Rattle.std.specs.FinMap.{get}
use Rattle.std.specs.List.{position}
use Rattle.std.specs.Option.{is_none}
use Rattle.os8_dir.specs.Files.{files_of, above_of}
use Rattle.os8_files.specs.Holds.{with_hold, times}
use Rattle.os8_files.specs.Mounted.{MountState}
use Rattle.os8_files.specs.Service.{count_of}
use Rattle.os8_dir.specs.declared.file_faults.FileFault.{FileFault}
use Rattle.os8_dir.specs.declared.file_faults.FileFault.TheVariants as file
use Rattle.volume_jobs.specs.Steps.{HasBegunLoading, BeginsLoading, TurnsJob, plain_after, jobs_after, turns_of, HoldsAgain, HasBegunAssembly, BeginsAssembly, is_assembled}
use Rattle.volume_jobs.specs.Calls.{StartsOver, StartsAssembling, StartsLoading, StartsSqueezing, TakesTurn, NumberTurnsOver, IfFile, NumberTellsRoom, CallsOf, TellsSqueeze, LeavesJobs}
use Rattle.volume_jobs.specs.Faults.{fault_of_file}
use Rattle.volume_jobs.specs.Jobs as plain
use Rattle.pal_blocks.specs.Blocks.{blocks_in}
use Rattle.volume_jobs.specs.Schedule.{loading_turns}
use Rattle.volume_jobs.specs.Settled.{IsSettled, AllStand, state_over, plain_job, plain_jobs, work_of}
use Rattle.volume_jobs.specs.Sources.{names_of}
use Rattle.volume_jobs.specs.Starts.{StartResult}
use Rattle.volume_jobs.specs.declared.assembly.Assembly.{Assembly}
use Rattle.volume_jobs.specs.State.{words_or}
use Rattle.volume_jobs.specs.Turns.{Answer, JobTurn, WorkTurn}
use Rattle.volume_jobs.specs.declared.loading.Loading.{Loading}
use Rattle.volume_jobs.specs.declared.kinds.Job.{Job}
use Rattle.volume_jobs.specs.declared.kinds.Work.{Work}
use Rattle.volume_jobs.specs.declared.kinds.Work.TheVariants as work
use Rattle.volume_jobs.specs.declared.faults.JobFault.{JobFault}
use Rattle.volume_jobs.specs.declared.faults.JobFault.TheVariants as fault
use Rattle.volume_jobs.proofs.PlainLemmas.{free_none, free_is, free_at, number_has, number_at_place, number_put, turns_put, turns_after, plain_is_after}
use Rattle.volume_jobs.proofs.SettledLemmas.{HeldLaw, settled_turn, settled_begun, held_same}
use Rattle.volume_jobs.proofs.TableLemmas.{unchanged}
use Rattle.volume_jobs.proofs.PlaceLemmas.{TakenLaw}

-- ## Turns

abbrev plain_left : Option plain.Job → ℕ
plain_left None = 0
plain_left (Some it) = it.turns

abbrev work_squeezes : plain.Work → Bool
work_squeezes (plain.Assembling to from) = false
work_squeezes (plain.Loading from) = false
work_squeezes (plain.Squeezing clean) = true

abbrev squeezes : Option plain.Job → Bool
squeezes None = false
squeezes (Some it) = work_squeezes it.work

-- a job that squeezes without what it keeps is one that squeezes
squeezing_is : (w : Work) (left more : ℕ) (clean : Bool) (old new : MountState) (answer : Answer) → plain_job (Some (record { work = w; turns = left })) ≡ Some (plain.squeezing clean more)
    → ((kind : Bool) → w ≡ work.Squeezing kind → TellsSqueeze left old answer new) → TellsSqueeze more old answer new
squeezing_is (work.Loading it) left more clean old new answer is tells = absurd (true≢false (sym (ap squeezes is)))
squeezing_is (work.Assembling it) left more clean old new answer is tells = absurd (true≢false (sym (ap squeezes is)))
squeezing_is (work.Squeezing kind) left more clean old new answer is tells = subst (λ n. TellsSqueeze n old answer new) (ap plain_left is) (tells kind refl)

pub takes_turn : HeldLaw → (old new : MountState) (core core2 : List ℕ) (jobs : List (Option Job)) (number place : ℕ) (it : Job) (answer : Answer) (after : Option Job) → IsSettled old jobs → number ≡ suc place → place < 8 → get_or jobs place None ≡ Some it
    → TurnsJob old core it answer after new core2 → TakesTurn old core jobs number answer new core2 (jobs_after (is_assembled answer) (slice_set jobs place after))
takes_turn law old new core core2 jobs number place it answer after settled next low is turns = record {
  settled = settled_turn law old new core core2 jobs place it answer after settled inside is turns;
  step = λ quiet.
      subst (λ j. JobTurn (state_over old core (plain_jobs jobs)) number j answer (state_over new core2 (plain_jobs (jobs_after (is_assembled answer) (slice_set jobs place after))))) (sym here)
      (subst (λ l. WorkTurn (state_over old core (plain_jobs jobs)) number (work_of it.work) it.turns answer (state_over new core2 l)) (ap (plain_after (is_assembled answer)) put ∙ plain_is_after (is_assembled answer) (slice_set jobs place after))
      (turns.step number (plain_jobs jobs) here (λ name. held_same law old jobs name settled) quiet));
  volume = subst (λ o. NumberTurnsOver o old answer new) (sym here) turns.volume;
  same_core = turns.same_core;
  left = leaves answer (subst (λ l. LeavesJobs number answer (plain_jobs jobs) l) put (turns.jobs number (plain_jobs jobs) here));
  fewer = λ it not_memory there. omega (arith, turns_put jobs place after inside, turns.fewer not_memory, ap turns_of is, turns_after (is_assembled answer) (slice_set jobs place after));
  calls = subst (λ o. CallsOf o old new) (sym (number_at_place jobs number place next ∙ is)) turns.calls;
  squeezed = λ clean left there. squeezing_is it.work it.turns left clean old new answer (sym here ∙ there) turns.squeezed;
  room = subst (λ o. IfFile (NumberTellsRoom o old) answer) (sym here) turns.room;
}
  where
    inside : place < length jobs
    inside = omega (arith, low, settled.places)

    here : plain.job_of number (plain_jobs jobs) ≡ plain_job (Some it)
    here = number_has jobs number place next ∙ ap plain_job is

    put : plain.with_job number (plain_job after) (plain_jobs jobs) ≡ plain_jobs (slice_set jobs place after)
    put = number_put jobs number place after next

    leaves : (a : Answer) → LeavesJobs number a (plain_jobs jobs) (plain_jobs (slice_set jobs place after)) → LeavesJobs number a (plain_jobs jobs) (plain_jobs (jobs_after (is_assembled a) (slice_set jobs place after)))
    leaves (Ok turned) left = tt
    leaves (Err why) left = left

-- there is no job of the number
pub no_turn : (old : MountState) (core : List ℕ) (jobs : List (Option Job)) (number place : ℕ) → IsSettled old jobs → number ≡ suc place → get_or jobs place None ≡ None → TakesTurn old core jobs number (Err fault.NoJob) old core jobs
no_turn old core jobs number place settled next none = record {
  settled = settled;
  step = λ quiet. subst (λ j. JobTurn (state_over old core (plain_jobs jobs)) number j (Err fault.NoJob) (state_over old core (plain_jobs jobs))) (sym here) refl;
  volume = subst (λ o. NumberTurnsOver o old (Err fault.NoJob) old) (sym here) (refl, refl);
  same_core = λ why told. refl;
  left = sym (number_put jobs number place None next ∙ ap plain_jobs (unchanged place jobs none));
  fewer = λ it other there. absurd (no_job it (sym here ∙ there));
  calls = subst (λ o. CallsOf o old old) (sym (number_at_place jobs number place next ∙ none)) refl;
  squeezed = λ clean left there. absurd (no_job _ (sym here ∙ there));
  room = tt;
}
  where
    here : plain.job_of number (plain_jobs jobs) ≡ None
    here = number_has jobs number place next ∙ ap plain_job none

    no_job : (it : plain.Job) → None ≡ Some it → ⊥
    no_job it is = cc

-- ## Starts

pub same_start : (old : MountState) (jobs : List (Option Job)) (answer : StartResult) → IsSettled old jobs → old.stopped ≡ false → StartsOver old jobs answer old jobs
same_start old jobs answer settled running = record {
  settled = settled;
  others = refl;
  stopped = λ stopped. absurd (true≢false (sym stopped ∙ running));
}

pub too_many_loads : (old : MountState) (jobs : List (Option Job)) (name : ℕ) → IsSettled old jobs → old.stopped ≡ false → position is_none jobs ≡ None → StartsLoading old jobs name (Err fault.TooManyJobs) old jobs
too_many_loads old jobs name settled running full = record {
  over = same_start old jobs _ settled running;
  step = λ running core. (free_none jobs full, refl);
}

pub too_many_squeezes : (old : MountState) (jobs : List (Option Job)) → IsSettled old jobs → old.stopped ≡ false → position is_none jobs ≡ None → StartsSqueezing old jobs (Err fault.TooManyJobs) old jobs
too_many_squeezes old jobs settled running full = record {
  over = same_start old jobs _ settled running;
  step = λ running core. (free_none jobs full, refl);
}

settled_same : (old new : MountState) (jobs : List (Option Job)) → new ≡ old → IsSettled old jobs → IsSettled new jobs
settled_same old new jobs is settled = subst (λ m. IsSettled m jobs) (sym is) settled

refused_by : (old new : MountState) (jobs : List (Option Job)) (answer : StartResult) → IsSettled old jobs → old.stopped ≡ false → new ≡ old → StartsOver old jobs answer new jobs
refused_by old new jobs answer settled running is = record {
  settled = settled_same old new jobs is settled;
  others = is ∙ ap (λ (m : MountState). record old { holds = m.holds }) (sym is);
  stopped = λ stopped. absurd (true≢false (sym stopped ∙ running));
}

-- a file that can't be held
pub refused_load : (old new : MountState) (jobs : List (Option Job)) (name place : ℕ) (why : FileFault) (answer : JobFault) → IsSettled old jobs → old.stopped ≡ false → position is_none jobs ≡ Some place → answer ≡ fault_of_file why → BeginsLoading old name (Err why) new → StartsLoading old jobs name (Err answer) new jobs
refused_load old new jobs name place why answer settled running free is begins = subst (λ a. StartsLoading old jobs name (Err a) new jobs) (sym is) (by_fault why begins)
  where
    by_fault : (w : FileFault) → BeginsLoading old name (Err w) new → StartsLoading old jobs name (Err (fault_of_file w)) new jobs
    by_fault file.NotFound b = record {
      over = refused_by old new jobs _ settled running b.2;
      step = λ still core. ((place + 1, free_is jobs place free), b.1, ap (λ (m : MountState). state_over m core (plain_jobs jobs)) b.2);
    }
    by_fault file.Memory b = record {
      over = refused_by old new jobs _ settled running b.2;
      step = λ still core. ((place + 1, free_is jobs place free), b.1, ap (λ (m : MountState). state_over m core (plain_jobs jobs)) b.2);
    }
    by_fault file.Stopped b = absurd (true≢false (sym b.0 ∙ running))
    by_fault (file.NoRoom n) b = absurd b
    by_fault file.DirectoryFull b = absurd b
    by_fault (file.Busy n) b = absurd b
    by_fault file.BadName b = absurd b
    by_fault file.TooLong b = absurd b
    by_fault file.TentativeOpen b = absurd b
    by_fault file.Device b = absurd b
    by_fault file.NothingWritten b = absurd b

-- a job that loads is begun
pub begun_load : TakenLaw → (old new : MountState) (jobs : List (Option Job)) (name place : ℕ) (it : Loading) (left : ℕ) → IsSettled old jobs → position is_none jobs ≡ Some place → place < 8 → HasBegunLoading old name it left new
    → StartsLoading old jobs name (Ok (place + 1)) new (slice_set jobs place (Some (record { work = work.Loading it; turns = left })))
begun_load law old new jobs name place it left settled free low begun = record {
  over = record {
    settled =
        settled_begun old new jobs place (Some job) (with_hold name old.holds) settled (omega (arith, low, settled.places)) (free_at jobs place free) begun.others
        (λ other. omega (arith, law other name old.holds, ap (λ n. times other (n ∷ [])) begun.holds)) begun.fits
        (λ running. (begun.words, (begun.has.0, ap (λ n. get (files_of old.blocks) n) begun.holds ∙ begun.has.1), begun.stands));
    others = begun.others ∙ ap (λ (m : MountState). record old { holds = m.holds }) (sym begun.others);
    stopped = λ stopped. absurd (true≢false (sym stopped ∙ begun.running));
  };
  step = λ running core. (
    ((begun.has.0, begun.words), begun.has.1),
    record {
      least = free_is jobs place free;
      others =
          ap (λ (m : MountState). state_over m core (plain_jobs (slice_set jobs place (Some job)))) begun.others
          ∙ ap (state_over old core) (sym (number_put jobs (place + 1) place (Some job) (add-one place)))
          ∙ ap (λ (j : plain.Job). record (state_over old core (plain_jobs jobs)) { jobs = plain.with_job (place + 1) (Some j) (plain_jobs jobs) })
          (ap (λ n. plain.loading n left) begun.holds ∙ ap (λ n. plain.loading name n) (begun.turns ∙ ap (λ w. loading_turns (blocks_in w)) (sym (ap words_or begun.has.1))));
    },
  );
}
  where
    job : Job
    job = record { work = work.Loading it; turns = left }

-- a job that squeezes is begun
pub begun_squeeze : (old : MountState) (jobs : List (Option Job)) (place left : ℕ) → IsSettled old jobs → old.stopped ≡ false → position is_none jobs ≡ Some place → place < 8 → left ≡ count_of (files_of old.blocks) + 1 → above_of old.blocks ≤ count_of (files_of old.blocks)
    → StartsSqueezing old jobs (Ok (place + 1)) old (slice_set jobs place (Some (record { work = work.Squeezing true; turns = left })))
begun_squeeze old jobs place left settled running free low count above = record {
  over = record {
    settled =
        settled_begun old old jobs place (Some job) old.holds settled (omega (arith, low, settled.places)) (free_at jobs place free) refl
        (λ other. omega arith) (omega (arith, count))
        (λ still. record { more = omega (arith, count); enough = λ clean. omega (arith, count, above) });
    others = refl;
    stopped = λ stopped. absurd (true≢false (sym stopped ∙ running));
  };
  step = λ still core. record {
    least = free_is jobs place free;
    others =
        ap (state_over old core) (sym (number_put jobs (place + 1) place (Some job) (add-one place)))
        ∙ ap (λ n. record (state_over old core (plain_jobs jobs)) { jobs = plain.with_job (place + 1) (Some (plain.squeezing true n)) (plain_jobs jobs) }) count;
  };
}
  where
    job : Job
    job = record { work = work.Squeezing true; turns = left }

-- ## Assembling

pub too_many_assemblies : (old : MountState) (jobs : List (Option Job)) (target : ℕ) (from : List ℕ) → IsSettled old jobs → old.stopped ≡ false → position is_none jobs ≡ None → StartsAssembling old jobs target from (Err fault.TooManyJobs) old jobs
too_many_assemblies old jobs target from settled running full = record {
  over = same_start old jobs _ settled running;
  step = λ running core. (free_none jobs full, refl);
}

-- names are held as often as before
over_again : (old new : MountState) (jobs : List (Option Job)) (answer : StartResult) → IsSettled old jobs → old.stopped ≡ false → HoldsAgain old new → StartsOver old jobs answer new jobs
over_again old new jobs answer settled running again = record {
  settled = record {
    none = ap (λ (m : MountState). m.tentative) again.others ∙ settled.none;
    places = settled.places;
    held = λ name. again.same name ∙ settled.held name;
    fit = settled.fit;
    stand = λ still. subst (λ (m : MountState). AllStand m.blocks jobs) (sym again.others) (settled.stand running);
  };
  others = again.others;
  stopped = λ stopped. absurd (true≢false (sym stopped ∙ running));
}

again_state : (old new : MountState) (core : List ℕ) (jobs : List (Option Job)) → HoldsAgain old new → state_over new core (plain_jobs jobs) ≡ state_over old core (plain_jobs jobs)
again_state old new core jobs again = ap (λ (m : MountState). state_over m core (plain_jobs jobs)) again.others

-- sources or a target that can't be
pub refused_assembly : HeldLaw → (old new : MountState) (jobs : List (Option Job)) (target : ℕ) (from : List ℕ) (place : ℕ) (why : JobFault) → IsSettled old jobs → old.stopped ≡ false → position is_none jobs ≡ Some place → BeginsAssembly old target from (Err why) new → StartsAssembling old jobs target from (Err why) new jobs
refused_assembly law old new jobs target from place (fault.File file.NotFound) settled running free b = record {
  over = over_again old new jobs _ settled running b.1;
  step = λ still core. ((place + 1, free_is jobs place free), b.0, again_state old new core jobs b.1);
}
refused_assembly law old new jobs target from place (fault.File (file.Busy other)) settled running free b = record {
  over = over_again old new jobs _ settled running b.3;
  step = λ still core. (
    (place + 1, free_is jobs place free),
    b.1,
    b.0,
    elim b.2 [
      | inl held ↦ inl (sym (held_same law old jobs target settled) ∙ held)
      | inr among ↦ inr among
    ],
    again_state old new core jobs b.3,
  );
}
refused_assembly law old new jobs target from place fault.Memory settled running free b = record {
  over = over_again old new jobs _ settled running b;
  step = λ still core. ((place + 1, free_is jobs place free), again_state old new core jobs b);
}
refused_assembly law old new jobs target from place (fault.File (file.NoRoom n)) settled running free b = absurd b
refused_assembly law old new jobs target from place (fault.File file.DirectoryFull) settled running free b = absurd b
refused_assembly law old new jobs target from place (fault.File file.BadName) settled running free b = absurd b
refused_assembly law old new jobs target from place (fault.File file.TooLong) settled running free b = absurd b
refused_assembly law old new jobs target from place (fault.File file.TentativeOpen) settled running free b = absurd b
refused_assembly law old new jobs target from place (fault.File file.Device) settled running free b = absurd b
refused_assembly law old new jobs target from place (fault.File file.Stopped) settled running free b = absurd b
refused_assembly law old new jobs target from place (fault.File file.Memory) settled running free b = absurd b
refused_assembly law old new jobs target from place (fault.File file.NothingWritten) settled running free b = absurd b
refused_assembly law old new jobs target from place fault.NoJob settled running free b = absurd b
refused_assembly law old new jobs target from place fault.TooManyJobs settled running free b = absurd b
refused_assembly law old new jobs target from place (fault.Asm why) settled running free b = absurd b
refused_assembly law old new jobs target from place (fault.Tape why) settled running free b = absurd b

-- a job that assembles is begun
pub started_assembly : HeldLaw → (old new : MountState) (jobs : List (Option Job)) (target : ℕ) (from : List ℕ) (place : ℕ) (it : Assembly) (left : ℕ) → IsSettled old jobs → old.stopped ≡ false → position is_none jobs ≡ Some place → place < 8 → HasBegunAssembly old target from it left new
    → StartsAssembling old jobs target from (Ok (place + 1)) new (slice_set jobs place (Some (record { work = work.Assembling it; turns = left })))
started_assembly law old new jobs target from place it left settled running free low begun = record {
  over = record {
    settled =
        settled_begun old new jobs place (Some job) new.holds settled (omega (arith, low, settled.places)) (free_at jobs place free) begun.held.others
        begun.held.taken begun.fits (λ still. begun.stands);
    others = begun.held.others;
    stopped = λ stopped. absurd (true≢false (sym stopped ∙ running));
  };
  step = λ still core. (
    begun.there,
    record { unheld = sym (held_same law old jobs target settled) ∙ begun.unheld; other = begun.other },
    record {
      least = free_is jobs place free;
      others =
          ap (λ (m : MountState). state_over m core (plain_jobs (slice_set jobs place (Some job)))) begun.held.others
          ∙ ap (state_over old core) (sym (number_put jobs (place + 1) place (Some job) (add-one place)))
          ∙ ap (λ (j : plain.Job). record (state_over old core (plain_jobs jobs)) { jobs = plain.with_job (place + 1) (Some j) (plain_jobs jobs) })
          (ap (λ n. plain.assembling n (names_of it.holds) left) begun.is_target ∙ ap (λ l. plain.assembling target l left) begun.names ∙ ap (plain.assembling target from) begun.turns);
    },
  );
}
  where
    job : Job
    job = record { work = work.Assembling it; turns = left }
