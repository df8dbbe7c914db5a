-- The numbers of jobs: the lowest free one, the lowest one that is taken, and what putting a job leaves.
use Rattle.std.proofs.Common.{◌≡◌, ◌≢◌, ℕ, zero, suc, ◌<◌, ◌≤◌, Bool, true, false, true≢false, List, length, get_or, Option, Some, None, refl, ap, sym, subst, ◌∙◌, arith}
use Rattle.std.proofs.lemmas.Grind.{common_steps}
use Rattle.std.proofs.lemmas.List.Quantifiers.{position-Some}
use Rattle.std.proofs.lemmas.List.Sums.{fails_before_first}
use Rattle.std.specs.List.{position, position_or_len}
use Rattle.std.specs.Option.{is_some, is_none}
use Rattle.volume_jobs.specs.Jobs.{Job, IsLowest, IsOfNone, IsFree, IsTaken, number_at, job_of, with_job, least_free, lowest_job}

-- ## Places

-- where no item passes a test, none at a place does
none_passes : {A : Type 0} (p : A → Bool) (xs : List A) (d : A) → position p xs ≡ None → (k : ℕ) → k < length xs → p (get_or xs k d) ≡ false
none_passes p xs d none k low =
    let all : length xs ≤ position_or_len p xs = grind (arith, common_steps) in
    fails_before_first p xs k d (omega (arith, all, low))

is_there : {A : Type 0} (o : Option A) → is_some o ≡ true → (x : A) × (o ≡ Some x)
is_there None some = cc
is_there (Some x) some = (x, refl)

is_gone : {A : Type 0} (o : Option A) → is_none o ≡ true → o ≡ None
is_gone None none = refl
is_gone (Some x) none = cc

-- ## Numbers

-- a lowest place that passes a test is a lowest number
lowest : (p : Option Job → Bool) (has : ℕ → Type 0) (jobs : List (Option Job)) (number : ℕ) → ((place : ℕ) → p (get_or jobs place None) ≡ true → has (suc place)) → ((place : ℕ) → has (suc place) → p (get_or jobs place None) ≡ true)
    → number_at (position p jobs) ≡ Some number → IsLowest has (length jobs) number
lowest p has jobs number to from is = of_place (position p jobs) refl is
  where
    below : (place : ℕ) → ((k : ℕ) → k < place → p (get_or jobs k None) ≡ false) → (lower : ℕ) → 1 ≤ lower → lower < suc place → has lower → ⊥
    below place none zero some low it = omega (arith, some)
    below place none (suc k) some low it = absurd (true≢false (sym (from k it) ∙ none k (omega (arith, low))))

    of_place : (o : Option ℕ) → position p jobs ≡ o → number_at o ≡ Some number → IsLowest has (length jobs) number
    of_place None found is = cc
    of_place (Some place) found is =
        let first = position-Some p jobs place None found in
        subst (λ n. IsLowest has (length jobs) n) (number_is place is) (record {
          least = omega arith;
          most = omega (arith, first.0);
          it = to place first.1;
          below = below place first.2;
        })
      where
        number_is : (place : ℕ) → number_at (Some place) ≡ Some number → suc place ≡ number
        number_is place is = cc

-- where no place passes it, no number does
of_none : (p : Option Job → Bool) (has : ℕ → Type 0) (jobs : List (Option Job)) → ((place : ℕ) → has (suc place) → p (get_or jobs place None) ≡ true) → number_at (position p jobs) ≡ None → IsOfNone has (length jobs)
of_none p has jobs from is zero some most it = omega (arith, some)
of_none p has jobs from is (suc place) some most it = absurd (true≢false (sym (from place it) ∙ none_passes p jobs None (not_some (position p jobs) is) place (omega (arith, most))))
  where
    not_some : (o : Option ℕ) → number_at o ≡ None → o ≡ None
    not_some None is = refl
    not_some (Some place) is = cc

gone_from : (jobs : List (Option Job)) (place : ℕ) → IsFree jobs (suc place) → is_none (get_or jobs place None) ≡ true
gone_from jobs place free = ap is_none free

there_from : (jobs : List (Option Job)) (place : ℕ) → IsTaken jobs (suc place) → is_some (get_or jobs place None) ≡ true
there_from jobs place taken = ap is_some taken.1

pub lowest_free : (jobs : List (Option Job)) (number : ℕ) → least_free jobs ≡ Some number → IsLowest (IsFree jobs) (length jobs) number
lowest_free jobs number is = lowest is_none (IsFree jobs) jobs number (λ place none. is_gone (get_or jobs place None) none) (gone_from jobs) is

pub none_free : (jobs : List (Option Job)) → least_free jobs ≡ None → IsOfNone (IsFree jobs) (length jobs)
none_free jobs is = of_none is_none (IsFree jobs) jobs (gone_from jobs) is

pub lowest_taken : (jobs : List (Option Job)) (number : ℕ) → lowest_job jobs ≡ Some number → IsLowest (IsTaken jobs) (length jobs) number
lowest_taken jobs number is = lowest is_some (IsTaken jobs) jobs number (λ place some. is_there (get_or jobs place None) some) (there_from jobs) is

pub none_taken : (jobs : List (Option Job)) → lowest_job jobs ≡ None → IsOfNone (IsTaken jobs) (length jobs)
none_taken jobs is = of_none is_some (IsTaken jobs) jobs (there_from jobs) is

-- ## Putting a job

pub put_there : (jobs : List (Option Job)) (number : ℕ) (job : Option Job) → 1 ≤ number → number ≤ length jobs → job_of number (with_job number job jobs) ≡ job
put_there jobs zero job some most = absurd (no_number some)
  where
    no_number : 1 ≤ 0 → ⊥
    no_number some = omega (arith, some)
put_there jobs (suc place) job some most = grind (arith, common_steps)

pub put_beside : (jobs : List (Option Job)) (number other : ℕ) (job : Option Job) → number ≢ other → job_of other (with_job number job jobs) ≡ job_of other jobs
put_beside jobs zero other job differ = refl
put_beside jobs (suc place) zero job differ = refl
put_beside jobs (suc place) (suc k) job differ = grind (arith, common_steps)
