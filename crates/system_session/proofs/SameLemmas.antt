-- What the turns of squeezing jobs leave.
use Rattle.std.proofs.Common.{◌≡◌, ◌∙◌, inl, inr, ℕ, zero, suc, Bool, false, Option, Some, None, List, [], ◌∷◌, get_or, slice_set, ◌-◌, Ok, Err, refl, ap, sym, subst}
use Rattle.volume_jobs.specs.Jobs.{Job, squeezing, job_of, with_job}
use Rattle.volume_jobs.specs.State as jobs
use Rattle.volume_jobs.specs.Turns.{Turns, JobTurn, SqueezingTurn}
use Rattle.volume_jobs.specs.declared.turned.Turned.{Turned}
use Rattle.volume_jobs.specs.declared.turned.Turned.TheVariants as turned
use Rattle.script8.specs.declared.entries.Entry.TheVariants as entry
use Rattle.script8.specs.declared.entries.JobEntry.TheVariants as order
use Rattle.script8.specs.declared.replies.Reply.TheVariants.{Line, Report}
use Rattle.system_session.specs.Same.{lasting_job, lasting_jobs, IsAlike}
use Rattle.system_session.specs.State.{State}
use Rattle.system_session.specs.System.{Answer, MayAnswer}
use Rattle.system_session.specs.Work.{job_state, with_work}
use Rattle.system_session.proofs.RefusalLemmas.{left_by}

-- ## Jobs

-- a job put under a number, among those that don't squeeze
lasting_place : (place : ℕ) (j : Option Job) (js : List (Option Job)) → lasting_jobs (slice_set js place j) ≡ slice_set (lasting_jobs js) place (lasting_job j)
lasting_place place j [] = refl
lasting_place zero j (o ∷ js) = refl
lasting_place (suc place) j (o ∷ js) = ap (λ l. lasting_job o ∷ l) (lasting_place place j js)

pub lasting_put : (number : ℕ) (j : Option Job) (js : List (Option Job)) → lasting_jobs (with_job number j js) ≡ with_job number (lasting_job j) (lasting_jobs js)
lasting_put zero j js = refl
lasting_put (suc place) j js = lasting_place place j js

-- where a number's job squeezes, the jobs are the same with none, or with another one that squeezes
squeezer_place : (place : ℕ) (j : Option Job) (js : List (Option Job)) → lasting_job (get_or js place None) ≡ None → lasting_job j ≡ None → lasting_jobs (slice_set js place j) ≡ lasting_jobs js
squeezer_place place j [] old new = refl
squeezer_place zero j (o ∷ js) old new = ap (λ (x : Option Job). x ∷ lasting_jobs js) (new ∙ sym old)
squeezer_place (suc place) j (o ∷ js) old new = ap (λ l. lasting_job o ∷ l) (squeezer_place place j js old new)

squeezer_put : (number : ℕ) (j : Option Job) (js : List (Option Job)) → lasting_job (job_of number js) ≡ None → lasting_job j ≡ None → lasting_jobs (with_job number j js) ≡ lasting_jobs js
squeezer_put zero j js old new = refl
squeezer_put (suc place) j js old new = squeezer_place place j js old new

-- a state of other jobs that are the same but for those that squeeze
pub alike : (s : State) (tight : Bool) (js : List (Option Job)) → lasting_jobs js ≡ lasting_jobs s.jobs → IsAlike s (record s { tight = tight; jobs = js })
alike s tight js is = ap (λ (l : List (Option Job)). record s { tight = false; jobs = l }) (sym is)

-- ## Its own place

-- the job that is found where one was put is put there again
put_place : (place : ℕ) (j : Option Job) (js : List (Option Job)) → slice_set js place (get_or (slice_set js place j) place None) ≡ slice_set js place j
put_place place j [] = refl
put_place zero j (o ∷ js) = refl
put_place (suc place) j (o ∷ js) = ap (λ l. o ∷ l) (put_place place j js)

put_again : (number : ℕ) (j : Option Job) (js : List (Option Job)) → with_job number (job_of number (with_job number j js)) js ≡ with_job number j js
put_again zero j js = refl
put_again (suc place) j js = put_place place j js

kept_place : (place : ℕ) (js : List (Option Job)) → slice_set js place (get_or js place None) ≡ js
kept_place place [] = refl
kept_place zero (o ∷ js) = refl
kept_place (suc place) (o ∷ js) = ap (λ l. o ∷ l) (kept_place place js)

kept : (number : ℕ) (js : List (Option Job)) → with_job number (job_of number js) js ≡ js
kept zero js = refl
kept (suc place) js = kept_place place js

-- two states differ in what is known of free blocks, and in the job of a number
abbrev IsBut : ℕ → State → State → Type 0
IsBut number old new = new ≡ record old { tight = new.tight; jobs = with_job number (job_of number new.jobs) old.jobs }

but_put : (number : ℕ) (old : State) (tight : Bool) (j : Option Job) → IsBut number old (record old { tight = tight; jobs = with_job number j old.jobs })
but_put number old tight j = ap (λ (l : List (Option Job)). record old { tight = tight; jobs = l }) (sym (put_again number j old.jobs))

but_kept : (number : ℕ) (old : State) → IsBut number old old
but_kept number old = ap (λ (l : List (Option Job)). record old { jobs = l }) (sym (kept number old.jobs))

-- ## Turns of squeezing jobs

-- what holds of a state that stays, or gets another job under a number that is none or squeezes, holds after a turn that squeezes
squeezed : (holds : State → Type 0) (old new : State) (number : ℕ) (clean : Bool) (left : ℕ) (answer : Answer) → holds old
    → ((tight : Bool) (j : Option Job) → lasting_job j ≡ None → holds (record old { tight = tight; jobs = with_job number j old.jobs }))
    → job_of number old.jobs ≡ Some (squeezing clean left) → MayAnswer old (entry.Jobs (order.Turn number)) answer new → holds new
squeezed holds old new number clean left answer same put is step = of_answer answer step
  where
    -- the turn is one of a squeezing job
    squeezes : (turned : Turned) (after : jobs.State) → Turns (job_state old) number (Ok turned) after → SqueezingTurn (job_state old) number clean left (Ok turned) after
    squeezes turned after turn = subst (λ (o : Option Job). JobTurn (job_state old) number o (Ok turned) after) is turn

    moved : (turned : Turned) (after : jobs.State) → SqueezingTurn (job_state old) number clean left (Ok turned) after → holds (with_work old after)
    moved turned.Working after turn = subst holds (ap (with_work old) (sym turn.2.others)) (put after.tight (Some (squeezing clean (left - 1))) refl)
    moved (turned.Assembled name blocks) after turn = absurd turn
    moved (turned.Loaded name) after turn = absurd turn
    moved turned.Squeezed after turn = subst holds (ap (with_work old) (sym turn.2.others)) (put after.tight None refl)

    of_answer : (answer : Answer) → MayAnswer old (entry.Jobs (order.Turn number)) answer new → holds new
    of_answer (Ok (Line said)) step = subst holds (sym step.2.2) (moved step.0 step.2.0 (squeezes step.0 step.2.0 step.2.1))
    of_answer (Ok (Report report)) step = absurd step
    of_answer (Err why) step = elim (left_by old new (entry.Jobs (order.Turn number)) why step) [
      | inl is ↦ subst holds (sym is) same
      | inr ended ↦ subst holds (sym ended) (put old.tight None refl)
    ]

pub squeezer_own : (old new : State) (number : ℕ) (clean : Bool) (left : ℕ) (answer : Answer) → job_of number old.jobs ≡ Some (squeezing clean left) → MayAnswer old (entry.Jobs (order.Turn number)) answer new → new ≡ record old { tight = new.tight; jobs = with_job number (job_of number new.jobs) old.jobs }
squeezer_own old new number clean left answer is step = squeezed (IsBut number old) old new number clean left answer (but_kept number old) (λ tight j none. but_put number old tight j) is step

pub squeezer_turn : (old new : State) (number : ℕ) (clean : Bool) (left : ℕ) (answer : Answer) → job_of number old.jobs ≡ Some (squeezing clean left) → MayAnswer old (entry.Jobs (order.Turn number)) answer new → IsAlike old new
squeezer_turn old new number clean left answer is step = squeezed (IsAlike old) old new number clean left answer refl (λ tight j none. alike old tight (with_job number j old.jobs) (squeezer_put number j old.jobs (ap lasting_job is) none)) is step
