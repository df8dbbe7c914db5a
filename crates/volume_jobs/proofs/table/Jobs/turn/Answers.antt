use Rattle.std.proofs.Common.{◌∙◌, Err, ◌-◌, None, slice_set, ap, sym, subst, arith}
use Rattle.volume_jobs.specs.Calls.{TakesTurn}
use Rattle.volume_jobs.specs.Settled.{FitsIn, StandsIn, with_disturbance}
use Rattle.volume_jobs.specs.Steps.{jobs_after}
use Rattle.volume_jobs.specs.declared.faults.JobFault.TheVariants.{NoJob}
use Rattle.volume_jobs.proofs.SettledLemmas.{fit_at, stand_at, held_enough}
use Rattle.volume_jobs.proofs.StartLemmas.{takes_turn, no_turn}
use Rattle.volume_jobs.proofs.TableLemmas.{set_twice, unchanged}
use Rattle.volume_jobs.proofs.table.Jobs.turn.Goals as goal

pub job_turn-answer-requires-clause-fits : goal.job_turn-answer-requires-clause-fits
job_turn-answer-requires-clause-fits g c = subst FitsIn (sym c.take.ensures.job ∙ c.in-Some.is) (fit_at c.args.self.now (c.args.number - 1) c.requires.fit)

pub job_turn-answer-requires-clause-stands : goal.job_turn-answer-requires-clause-stands
job_turn-answer-requires-clause-stands g c = λ running. subst (λ o. StandsIn c.args.files.now.blocks o) (sym c.take.ensures.job ∙ c.in-Some.is) (stand_at c.args.files.now.blocks c.args.self.now (c.args.number - 1) (c.requires.stand running))

pub job_turn-answer-requires-clause-held : goal.job_turn-answer-requires-clause-held
job_turn-answer-requires-clause-held g c = λ name. held_enough c.args.files.now c.args.self.now (c.args.number - 1) c.in-Some.job name c.requires (omega (arith, c.if-number-eq0.false, c.if-number-gt8.false, c.requires.places)) (sym c.take.ensures.job ∙ c.in-Some.is)

pub returns-in-None : goal.returns-in-None
returns-in-None g c =
    let none = sym c.take.ensures.job ∙ c.in-None.is in
    subst (λ l. TakesTurn c.args.files.now c.args.core.now c.args.self.now c.args.number (Err NoJob) c.args.files.now c.args.core.now l) (sym (c.take.ensures.rest ∙ unchanged (c.args.number - 1) c.args.self.now none))
    (no_turn c.args.files.now c.args.core.now c.args.self.now c.args.number (c.args.number - 1) c.requires (omega (arith, c.if-number-eq0.false)) none)

pub returns-then-is_assembled : goal.returns-then-is_assembled
returns-then-is_assembled g c =
    subst (λ l. TakesTurn c.args.files.now c.args.core.now c.args.self.now c.args.number c.job_turn-answer.result.0 c.job_turn-answer.new.files c.job_turn-answer.new.core l)
    (ap (λ b. jobs_after b (slice_set c.args.self.now (c.args.number - 1) c.job_turn-answer.result.1)) (sym c.is_assembled.ensures ∙ c.if-is_assembled.true)
    ∙ ap with_disturbance (sym (c.put.ensures ∙ ap (λ l. slice_set l (c.args.number - 1) c.job_turn-answer.result.1) c.take.ensures.rest ∙ set_twice c.args.self.now (c.args.number - 1) None c.job_turn-answer.result.1))
    ∙ sym c.disturb.ensures)
    (takes_turn c.counted_holds.ensures.held c.args.files.now c.job_turn-answer.new.files c.args.core.now c.job_turn-answer.new.core c.args.self.now c.args.number (c.args.number - 1) c.in-Some.job c.job_turn-answer.result.0 c.job_turn-answer.result.1
    c.requires (omega (arith, c.if-number-eq0.false)) (omega (arith, c.if-number-eq0.false, c.if-number-gt8.false)) (sym c.take.ensures.job ∙ c.in-Some.is) c.job_turn-answer.ensures)

pub returns-else-is_assembled : goal.returns-else-is_assembled
returns-else-is_assembled g c =
    subst (λ l. TakesTurn c.args.files.now c.args.core.now c.args.self.now c.args.number c.job_turn-answer.result.0 c.job_turn-answer.new.files c.job_turn-answer.new.core l)
    (ap (λ b. jobs_after b (slice_set c.args.self.now (c.args.number - 1) c.job_turn-answer.result.1)) (sym c.is_assembled.ensures ∙ c.if-is_assembled.false)
    ∙ sym (c.put.ensures ∙ ap (λ l. slice_set l (c.args.number - 1) c.job_turn-answer.result.1) c.take.ensures.rest ∙ set_twice c.args.self.now (c.args.number - 1) None c.job_turn-answer.result.1))
    (takes_turn c.counted_holds.ensures.held c.args.files.now c.job_turn-answer.new.files c.args.core.now c.job_turn-answer.new.core c.args.self.now c.args.number (c.args.number - 1) c.in-Some.job c.job_turn-answer.result.0 c.job_turn-answer.result.1
    c.requires (omega (arith, c.if-number-eq0.false)) (omega (arith, c.if-number-eq0.false, c.if-number-gt8.false)) (sym c.take.ensures.job ∙ c.in-Some.is) c.job_turn-answer.ensures)
