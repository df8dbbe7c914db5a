-- A turn of a job that loads among those of all jobs.
use Rattle.std.proofs.Common.{◌≡◌, ◌∙◌, ℕ, ◌+◌, ◌≤◌, Bool, Option, Some, None, List, [], ◌∷◌, ap, sym, subst, arith}
use Rattle.std.specs.FinMap.{get}
use Rattle.os8_dir.specs.Files.{files_of, above_of}
use Rattle.os8_files.specs.Holds.{times}
use Rattle.os8_files.specs.Mounted.{MountState}
use Rattle.volume_jobs.specs.Calls.{WorkTellsRoom}
use Rattle.volume_jobs.specs.Steps.{TurnsLoading, TurnsJob, left_holds, plain_after, FitsAfter, FitsOn, names_in}
use Rattle.volume_jobs.specs.Jobs as plain
use Rattle.volume_jobs.specs.Settled.{state_over, plain_job, FitsIn}
use Rattle.volume_jobs.specs.Turns.{Answer, LoadingTurn}
use Rattle.volume_jobs.specs.declared.loading.Loading.{Loading}
use Rattle.volume_jobs.specs.declared.kinds.Job.{Job}
use Rattle.volume_jobs.specs.declared.kinds.Work.{Work}
use Rattle.volume_jobs.specs.declared.kinds.Work.TheVariants as work
use Rattle.volume_jobs.proofs.PlaceLemmas.{ReleasedLaw}
use Rattle.volume_jobs.proofs.StepLemmas.{of_each}
use Rattle.volume_jobs.proofs.TimesLemmas.{self_once}

fits_in : (hold : ℕ) (after : Option Job) → FitsAfter hold after → FitsIn after
fits_in hold None fits = tt
fits_in hold (Some it) fits = by_work it.work it.turns fits
  where
    by_work : (w : Work) (left : ℕ) → FitsOn hold w left → FitsIn (Some (record { work = w; turns = left }))
    by_work (work.Loading l) left f = f.0
    by_work (work.Assembling a) left f = absurd f
    by_work (work.Squeezing clean) left f = absurd f

holds_after : ReleasedLaw → (hold : ℕ) (after : Option Job) (holds : List ℕ) (name : ℕ) → 1 ≤ times hold holds → FitsAfter hold after → times name (left_holds hold after holds) + times name (hold ∷ []) ≡ times name holds + times name (names_in after)
holds_after law hold None holds name some fits = omega (arith, law name hold holds some)
holds_after law hold (Some it) holds name some fits = by_work it.work it.turns fits
  where
    by_work : (w : Work) (left : ℕ) → FitsOn hold w left → times name holds + times name (hold ∷ []) ≡ times name holds + times name (names_in (Some (record { work = w; turns = left })))
    by_work (work.Loading l) left f = ap (λ n. times name holds + times name (n ∷ [])) (sym f.1)
    by_work (work.Assembling a) left f = absurd f
    by_work (work.Squeezing clean) left f = absurd f

pub loading_job : ReleasedLaw → (old new : MountState) (core core2 : List ℕ) (it : Loading) (left : ℕ) (answer : Answer) (after : Option Job) → old.tentative ≡ None → ((name : ℕ) → times name (it.hold ∷ []) ≤ times name old.holds)
    → TurnsLoading old core it left answer after new core2 → TurnsJob old core (record { work = work.Loading it; turns = left }) answer after new core2
loading_job law old new core core2 it left answer after none held t = record {
  step = λ number l there named quiet. subst (λ b. LoadingTurn (state_over old core l) number it.hold left answer (state_over new core2 (plain_after b (plain.with_job number (plain_job after) l)))) (sym t.kind) (t.step number l there quiet);
  jobs = t.jobs;
  volume = t.volume;
  same_core = t.same_core;
  stands = t.stands;
  fits = fits_in it.hold after t.fits;
  holds = λ name. ap (λ (m : MountState). times name m.holds + times name (it.hold ∷ [])) t.kept.others ∙ holds_after law it.hold after old.holds name (omega (arith, held it.hold, self_once it.hold)) t.fits;
  running = λ still. sym (ap (λ (m : MountState). m.stopped) t.kept.others) ∙ still;
  none = ap (λ (m : MountState). m.tentative) t.kept.others ∙ none;
  kept = λ name is_held still. ap (λ (m : MountState). get (files_of m.blocks) name) t.kept.others;
  above = λ kind still. omega (arith, ap (λ (m : MountState). above_of m.blocks) t.kept.others);
  fewer = t.fewer;
  calls = (ap (λ (m : MountState). m.blocks) t.kept.others, t.kept.reads);
  squeezed = λ clean is. absurd (never clean is);
  room = of_each (WorkTellsRoom (plain.Loading it.hold) old) (λ why. tt) answer;
}
  where
    never : (clean : Bool) → work.Loading it ≡ work.Squeezing clean → ⊥
    never clean is = cc
