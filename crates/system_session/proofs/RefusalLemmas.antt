-- What a refusal leaves.
use Rattle.std.proofs.Common.{◌≡◌, ◌⊎◌, inl, inr, None, Err, refl, sym, ◌∙◌, ap}
use Rattle.script8.specs.Replies.{job_of_entry}
use Rattle.script8.specs.declared.entries.Entry.{Entry}
use Rattle.refusals.specs.declared.faults.SessionFault.{SessionFault}
use Rattle.refusals.specs.declared.faults.SessionFault.TheVariants as fault
use Rattle.system_session.specs.Refusals.{after_refusal, jobs_without}
use Rattle.system_session.specs.State.{State}
use Rattle.system_session.specs.System.{MayAnswer}

pub left_by : (old new : State) (e : Entry) (why : SessionFault) → MayAnswer old e (Err why) new → (new ≡ old) ⊎ (new ≡ after_refusal old e)
left_by old new e fault.Memory step = inl step.1
left_by old new e fault.BadLine step = inr step.1
left_by old new e fault.NoJob step = inr step.1
left_by old new e fault.TooManyJobs step = inr step.1
left_by old new e (fault.File fault) step = inr step.1
left_by old new e (fault.Asm fault) step = inr step.1
left_by old new e (fault.Tape fault) step = inr step.1
left_by old new e fault.BadText step = inr step.1
left_by old new e fault.Reader step = inr step.1
left_by old new e fault.Writer step = inr step.1
left_by old new e fault.TooManyBreaks step = inr step.1

after_is : (old : State) (e : Entry) → job_of_entry e ≡ None → after_refusal old e ≡ old
after_is old e none = ap (λ job. record old { jobs = jobs_without job old.jobs }) none

after_others : (old : State) (e : Entry) → after_refusal old e ≡ record old { jobs = (after_refusal old e).jobs }
after_others old e = refl

pub refused_others : (old new : State) (e : Entry) (why : SessionFault) → MayAnswer old e (Err why) new → new ≡ record old { jobs = new.jobs }
refused_others old new e why step = elim (left_by old new e why step) [
  | inl is ↦ is ∙ ap (λ (s : State). record old { jobs = s.jobs }) (sym is)
  | inr is ↦ is ∙ after_others old e ∙ ap (λ (s : State). record old { jobs = s.jobs }) (sym is)
]

pub refused_all : (old new : State) (e : Entry) (why : SessionFault) → job_of_entry e ≡ None → MayAnswer old e (Err why) new → new ≡ old
refused_all old new e why none step = elim (left_by old new e why step) [ inl is ↦ is | inr is ↦ is ∙ after_is old e none ]
