-- The table of jobs.
use Rattle.std.proofs.Common.{◌≡◌, ◌∙◌, ℕ, zero, suc, ◌+◌, ◌<◌, List, [], ◌∷◌, ◌++◌, take, drop, length, get_or, slice_set, Option, None, refl, ap, sym, arith, add-one}
use Rattle.volume_jobs.specs.Settled.{with_disturbance, disturbed_job}
use Rattle.volume_jobs.specs.declared.kinds.Job.{Job}

pub set_twice : (jobs : List (Option Job)) (place : ℕ) (a b : Option Job) → slice_set (slice_set jobs place a) place b ≡ slice_set jobs place b
set_twice [] place a b = refl
set_twice (it ∷ jobs) zero a b = refl
set_twice (it ∷ jobs) (suc place) a b = ap (λ l. it ∷ l) (set_twice jobs place a b)

-- taking away a job where there is none
pub unchanged : {A : Type 0} (place : ℕ) (jobs : List (Option A)) → get_or jobs place None ≡ None → slice_set jobs place None ≡ jobs
unchanged place [] none = refl
unchanged {A} zero (j ∷ jobs) none = ap (λ (o : Option A). o ∷ jobs) (sym none)
unchanged (suc place) (j ∷ jobs) none = ap (λ l. j ∷ l) (unchanged place jobs none)

-- one more job is disturbed
pub disturbed_more : (jobs old : List (Option Job)) (place : ℕ) (none : Option Job) → place < length old → jobs ≡ with_disturbance (take place old) ++ drop place old → slice_set jobs place (disturbed_job (get_or jobs place none)) ≡ with_disturbance (take (place + 1) old) ++ drop (place + 1) old
disturbed_more jobs old place none short is = rw is (set_more old place short ∙ ap (λ n. with_disturbance (take n old) ++ drop n old) (sym (add-one place)))
  where
    set_more : (old : List (Option Job)) (place : ℕ) → place < length old → slice_set (with_disturbance (take place old) ++ drop place old) place (disturbed_job (get_or (with_disturbance (take place old) ++ drop place old) place none)) ≡ with_disturbance (take (suc place) old) ++ drop (suc place) old
    set_more [] place short = absurd (nothing place short)
      where
        nothing : (n : ℕ) → n < 0 → ⊥
        nothing n h = omega (arith, h)
    set_more (j ∷ old) zero short = refl
    set_more (j ∷ old) (suc place) short = ap (λ l. disturbed_job j ∷ l) (set_more old place (omega (arith, short)))
