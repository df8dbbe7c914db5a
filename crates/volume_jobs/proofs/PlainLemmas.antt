-- The jobs of the table without what they keep.
use Rattle.std.proofs.Common.{◌≡◌, ◌∙◌, ℕ, zero, suc, ◌+◌, ◌<◌, Bool, true, false, Option, Some, None, List, [], ◌∷◌, length, slice_set, get_or, refl, ap, sym, arith, add-one}
use Rattle.std.proofs.lemmas.List.Quantifiers.{position-Some}
use Rattle.std.specs.List.{position, position_or_len}
use Rattle.std.specs.Option.{is_some, is_none}
use Rattle.volume_jobs.specs.Calls.{job_at}
use Rattle.volume_jobs.specs.Jobs as plain
use Rattle.volume_jobs.specs.Jobs.{job_of, with_job, least_free, lowest_job, number_at, turns_left}
use Rattle.volume_jobs.specs.Settled.{plain_job, plain_jobs}
use Rattle.volume_jobs.specs.Steps.{turns_of, plain_after, jobs_after}
use Rattle.volume_jobs.specs.Settled as settled
use Rattle.volume_jobs.specs.declared.kinds.Job.{Job}
use Rattle.volume_jobs.specs.declared.kinds.Work.{Work}
use Rattle.volume_jobs.specs.declared.kinds.Work.TheVariants as work

plain_set : (jobs : List (Option Job)) (place : ℕ) (a : Option Job) → slice_set (plain_jobs jobs) place (plain_job a) ≡ plain_jobs (slice_set jobs place a)
plain_set [] place a = refl
plain_set (it ∷ jobs) zero a = refl
plain_set (it ∷ jobs) (suc place) a = ap (λ l. plain_job it ∷ l) (plain_set jobs place a)

plain_at : (jobs : List (Option Job)) (place : ℕ) → get_or (plain_jobs jobs) place None ≡ plain_job (get_or jobs place None)
plain_at [] place = refl
plain_at (it ∷ jobs) zero = refl
plain_at (it ∷ jobs) (suc place) = plain_at jobs place

plain_length : (jobs : List (Option Job)) → length (plain_jobs jobs) ≡ length jobs
plain_length [] = refl
plain_length (it ∷ jobs) = ap suc (plain_length jobs)

first_some : (jobs : List (Option Job)) → position_or_len is_some (plain_jobs jobs) ≡ position_or_len is_some jobs
first_some [] = refl
first_some (None ∷ jobs) = ap (λ n. 1 + n) (first_some jobs)
first_some (Some it ∷ jobs) = refl

first_none : (jobs : List (Option Job)) → position_or_len is_none (plain_jobs jobs) ≡ position_or_len is_none jobs
first_none [] = refl
first_none (None ∷ jobs) = refl
first_none (Some it ∷ jobs) = ap (λ n. 1 + n) (first_none jobs)

place_some : (jobs : List (Option Job)) → position is_some (plain_jobs jobs) ≡ position is_some jobs
place_some jobs = rw (first_some jobs) (rw (plain_length jobs) refl)

place_none : (jobs : List (Option Job)) → position is_none (plain_jobs jobs) ≡ position is_none jobs
place_none jobs = rw (first_none jobs) (rw (plain_length jobs) refl)

pub lowest_none : (jobs : List (Option Job)) → position is_some jobs ≡ None → None ≡ lowest_job (plain_jobs jobs)
lowest_none jobs is = sym (ap number_at (place_some jobs ∙ is))

pub lowest_is : (jobs : List (Option Job)) (place : ℕ) → position is_some jobs ≡ Some place → Some (place + 1) ≡ lowest_job (plain_jobs jobs)
lowest_is jobs place is = ap Some (add-one place) ∙ sym (ap number_at (place_some jobs ∙ is))

pub free_none : (jobs : List (Option Job)) → position is_none jobs ≡ None → least_free (plain_jobs jobs) ≡ None
free_none jobs is = ap number_at (place_none jobs ∙ is)

pub free_is : (jobs : List (Option Job)) (place : ℕ) → position is_none jobs ≡ Some place → least_free (plain_jobs jobs) ≡ Some (place + 1)
free_is jobs place is = ap number_at (place_none jobs ∙ is) ∙ ap Some (sym (add-one place))

is_gone : {A : Type 0} (o : Option A) → is_none o ≡ true → o ≡ None
is_gone None none = refl
is_gone (Some x) none = cc

-- the lowest free place has no job
pub free_at : (jobs : List (Option Job)) (place : ℕ) → position is_none jobs ≡ Some place → get_or jobs place None ≡ None
free_at jobs place is = is_gone (get_or jobs place None) (position-Some is_none jobs place None is).1

-- ## Numbers

pub number_has : (jobs : List (Option Job)) (number place : ℕ) → number ≡ suc place → job_of number (plain_jobs jobs) ≡ plain_job (get_or jobs place None)
number_has jobs number place is = ap (λ n. job_of n (plain_jobs jobs)) is ∙ plain_at jobs place

pub number_at_place : (jobs : List (Option Job)) (number place : ℕ) → number ≡ suc place → job_at number jobs ≡ get_or jobs place None
number_at_place jobs number place is = ap (λ n. job_at n jobs) is

pub number_put : (jobs : List (Option Job)) (number place : ℕ) (a : Option Job) → number ≡ suc place → with_job number (plain_job a) (plain_jobs jobs) ≡ plain_jobs (slice_set jobs place a)
number_put jobs number place a is = ap (λ n. with_job n (plain_job a) (plain_jobs jobs)) is ∙ plain_set jobs place a

turns_more : (it : Option Job) (jobs : List (Option Job)) → turns_left (plain_jobs (it ∷ jobs)) ≡ turns_of it + turns_left (plain_jobs jobs)
turns_more None jobs = omega arith
turns_more (Some it) jobs = refl

pub turns_put : (jobs : List (Option Job)) (place : ℕ) (after : Option Job) → place < length jobs
    → turns_left (plain_jobs (slice_set jobs place after)) + turns_of (get_or jobs place None) ≡ turns_left (plain_jobs jobs) + turns_of after
turns_put [] place after inside = absurd (omega (arith, inside))
turns_put (it ∷ jobs) zero after inside = omega (arith, turns_more after jobs, turns_more it jobs)
turns_put (it ∷ jobs) (suc place) after inside = omega (arith, turns_more it (slice_set jobs place after), turns_more it jobs, turns_put jobs place after (omega (arith, inside)))

plain_disturbed_job : (it : Option Job) → plain_job (settled.disturbed_job it) ≡ plain.disturbed_job (plain_job it)
plain_disturbed_job None = refl
plain_disturbed_job (Some it) = by_work it.work it.turns
  where
    by_work : (w : Work) (left : ℕ) → plain_job (settled.disturbed_job (Some (record { work = w; turns = left }))) ≡ plain.disturbed_job (plain_job (Some (record { work = w; turns = left })))
    by_work (work.Loading l) left = refl
    by_work (work.Assembling a) left = refl
    by_work (work.Squeezing clean) left = refl

pub plain_disturbed : (jobs : List (Option Job)) → plain_jobs (settled.with_disturbance jobs) ≡ plain.with_disturbance (plain_jobs jobs)
plain_disturbed [] = refl
plain_disturbed (it ∷ jobs) = ap (λ j. j ∷ plain_jobs (settled.with_disturbance jobs)) (plain_disturbed_job it) ∙ ap (λ l. plain.disturbed_job (plain_job it) ∷ l) (plain_disturbed jobs)

-- ## Beyond a turn

pub plain_is_after : (b : Bool) (jobs : List (Option Job)) → plain_after b (plain_jobs jobs) ≡ plain_jobs (jobs_after b jobs)
plain_is_after true jobs = sym (plain_disturbed jobs)
plain_is_after false jobs = refl

turns_disturbed : (jobs : List (Option Job)) → turns_left (plain_jobs (settled.with_disturbance jobs)) ≡ turns_left (plain_jobs jobs)
turns_disturbed [] = refl
turns_disturbed (None ∷ jobs) = turns_disturbed jobs
turns_disturbed (Some it ∷ jobs) = ap (λ n. it.turns + n) (turns_disturbed jobs)

pub turns_after : (b : Bool) (jobs : List (Option Job)) → turns_left (plain_jobs (jobs_after b jobs)) ≡ turns_left (plain_jobs jobs)
turns_after true jobs = turns_disturbed jobs
turns_after false jobs = refl
