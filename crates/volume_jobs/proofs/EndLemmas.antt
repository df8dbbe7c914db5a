-- The end of all jobs.
use Rattle.std.proofs.Common.{◌≡◌, ◌∙◌, ℕ, zero, suc, ◌+◌, ◌<◌, ◌≤◌, Option, Some, None, List, [], ◌∷◌, ◌++◌, length, take, drop, get_or, slice_set, refl, ap, sym, subst, add-one, arith}
use Rattle.os8_files.specs.Holds.{times}
use Rattle.os8_files.specs.Mounted.{MountState}
use Rattle.volume_jobs.specs.Steps.{without_job, without_jobs, no_jobs}
use Rattle.volume_jobs.specs.Settled.{AreHeld, IsSettled, plain_jobs}
use Rattle.volume_jobs.specs.declared.kinds.Job.{Job}
use Rattle.volume_jobs.specs.declared.kinds.Work.{Work}
use Rattle.volume_jobs.specs.declared.kinds.Work.TheVariants as work
use Rattle.volume_jobs.specs.Jobs.{names_of_jobs}
use Rattle.volume_jobs.specs.Sources.{names_of}
use Rattle.volume_jobs.proofs.TimesLemmas.{self_once, times-append}
use Rattle.volume_jobs.proofs.PlaceLemmas.{ReleasedLaw, times_without}

-- where no name stands in a list it is empty
none_held : (holds : List ℕ) → ((name : ℕ) → times name holds ≡ 0) → holds ≡ []
none_held [] none = refl
none_held (held ∷ holds) none = absurd (never (none held))
  where
    never : times held (held ∷ holds) ≡ 0 → ⊥
    never is = omega (arith, is, self_once held)

fewer_held : ReleasedLaw → (it : Option Job) (jobs : List (Option Job)) (holds : List ℕ) → AreHeld holds (it ∷ jobs) → AreHeld (without_job it holds) jobs
fewer_held law None jobs holds held = held
fewer_held law (Some it) jobs holds held = by_work it.work it.turns held
  where
    by_work : (w : Work) (left : ℕ) → AreHeld holds (Some (record { work = w; turns = left }) ∷ jobs) → AreHeld (without_job (Some (record { work = w; turns = left })) holds) jobs
    by_work (work.Loading l) left h = λ name. omega (arith, h name, law name l.hold holds some)
      where
        some : 1 ≤ times l.hold holds
        some = omega (arith, h l.hold, self_once l.hold)
    by_work (work.Assembling a) left h = λ name.
        omega (
          arith,
          h name,
          times-append name (names_of a.holds) (names_of_jobs (plain_jobs jobs)),
          times_without law a.holds holds name (λ n. omega (arith, h n, times-append n (names_of a.holds) (names_of_jobs (plain_jobs jobs)))),
        )
    by_work (work.Squeezing clean) left h = h

-- the holds are those of the jobs, and none is left where each job has let go
pub all_let_go : ReleasedLaw → (jobs : List (Option Job)) (holds : List ℕ) → AreHeld holds jobs → without_jobs jobs holds ≡ []
all_let_go law [] holds held = none_held holds held
all_let_go law (it ∷ jobs) holds held = all_let_go law jobs (without_job it holds) (fewer_held law it jobs holds held)

-- one more has let go
pub cleared_more : {A : Type 0} (jobs old : List (Option A)) (place : ℕ) → place < length old → jobs ≡ no_jobs (take place old) ++ drop place old → slice_set jobs place None ≡ no_jobs (take (place + 1) old) ++ drop (place + 1) old
cleared_more jobs old place short is = rw is (set_more old place short ∙ ap (λ n. no_jobs (take n old) ++ drop n old) (sym (add-one place)))
  where
    set_more : {A : Type 0} (old : List (Option A)) (place : ℕ) → place < length old → slice_set (no_jobs (take place old) ++ drop place old) place None ≡ no_jobs (take (suc place) old) ++ drop (suc place) old
    set_more [] place short = absurd (nothing place short)
      where
        nothing : (n : ℕ) → n < 0 → ⊥
        nothing n h = omega (arith, h)
    set_more (j ∷ old) zero short = refl
    set_more (j ∷ old) (suc place) short = ap (λ l. None ∷ l) (set_more old place (omega (arith, short)))

-- the job that lets go is the one at its place
pub at_place : {A : Type 0} (jobs old : List (Option A)) (place : ℕ) → place < length old → jobs ≡ no_jobs (take place old) ++ drop place old → get_or jobs place None ≡ get_or old place None
at_place jobs old place short is = rw is (same old place short)
  where
    same : {A : Type 0} (old : List (Option A)) (place : ℕ) → place < length old → get_or (no_jobs (take place old) ++ drop place old) place None ≡ get_or old place None
    same [] place short = absurd (nothing place short)
      where
        nothing : (n : ℕ) → n < 0 → ⊥
        nothing n h = omega (arith, h)
    same (j ∷ old) zero short = refl
    same (j ∷ old) (suc place) short = same old place (omega (arith, short))

pub without_more : (old : List (Option Job)) (place : ℕ) (holds : List ℕ) → place < length old → without_job (get_or old place None) (without_jobs (take place old) holds) ≡ without_jobs (take (place + 1) old) holds
without_more old place holds short = more old place holds short ∙ ap (λ n. without_jobs (take n old) holds) (sym (add-one place))
  where
    more : (old : List (Option Job)) (place : ℕ) (holds : List ℕ) → place < length old → without_job (get_or old place None) (without_jobs (take place old) holds) ≡ without_jobs (take (suc place) old) holds
    more [] place holds short = absurd (nothing place short)
      where
        nothing : (n : ℕ) → n < 0 → ⊥
        nothing n h = omega (arith, h)
    more (j ∷ old) zero holds short = refl
    more (j ∷ old) (suc place) holds short = more old place (without_job j holds) (omega (arith, short))

pub fresh : (volume : MountState) (jobs : List (Option Job)) → jobs ≡ None ∷ None ∷ None ∷ None ∷ None ∷ None ∷ None ∷ None ∷ [] → volume.tentative ≡ None → volume.holds ≡ [] → IsSettled volume jobs
fresh volume jobs is none free = subst (λ l. IsSettled volume l) (sym is) (record {
  none = none;
  places = refl;
  held = λ name. ap (times name) free;
  fit = (tt, (tt, (tt, (tt, (tt, (tt, (tt, (tt, tt))))))));
  stand = λ running. (tt, (tt, (tt, (tt, (tt, (tt, (tt, (tt, tt))))))));
})

pub cleared_at : {A : Type 0} (jobs : List (Option A)) (place : ℕ) (other : Option A) → place < length jobs → get_or (no_jobs jobs) place other ≡ None
cleared_at [] place other short = absurd (omega (arith, short))
cleared_at (j ∷ jobs) zero other short = refl
cleared_at (j ∷ jobs) (suc place) other short = cleared_at jobs place other (omega (arith, short))

-- what stands at a place that has no job is none
pub none_at : {A : Type 0} (jobs : List (Option A)) (place : ℕ) (it : Option A) → get_or jobs place it ≡ None → it ≡ get_or jobs place it → it ≡ None
none_at jobs place it none is = is ∙ none

same_all : {A : Type 0} (old : List (Option A)) (place : ℕ) → length old ≤ place → no_jobs (take place old) ++ drop place old ≡ no_jobs old
same_all [] zero all = refl
same_all [] (suc place) all = refl
same_all (j ∷ old) zero all = absurd (never (length old) all)
  where
    never : (n : ℕ) → suc n ≤ 0 → ⊥
    never n h = omega (arith, h)
same_all (j ∷ old) (suc place) all = ap (λ l. None ∷ l) (same_all old place (omega (arith, all)))

-- all have let go
pub none_left : {A : Type 0} (jobs old : List (Option A)) (last place : ℕ) (other : Option A) → length old ≤ last → jobs ≡ no_jobs (take last old) ++ drop last old → place < length old → get_or jobs place other ≡ None
none_left jobs old last place other all is short = ap (λ l. get_or l place other) (is ∙ same_all old last all) ∙ cleared_at old place other short
