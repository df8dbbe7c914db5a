use Rattle.std.proofs.Common.{sym, subst, arith}
use Rattle.std.proofs.lemmas.Bool.{le-ltb, lt-ltb}
use Rattle.pointer_flow.specs.Questions.{Answers, HasField}
use Rattle.pointer_flow.proofs.flows.Flow.reference_field.Goals as goal

pub returns-then-get-lt2048-clause-field : goal.returns-then-get-lt2048-clause-field
returns-then-get-lt2048-clause-field c = λ p is.
    subst (λ b. Answers (HasField p c.args.cell b) c.data_field.result)
    (sym (lt-ltb c.args.word 2048 (omega (arith, c.get.ensures.value, c.if-get-lt2048.true)))) (c.data_field.ensures.field p is)

pub returns-else-get-lt2048-clause-field : goal.returns-else-get-lt2048-clause-field
returns-else-get-lt2048-clause-field c = λ p is.
    subst (λ b. Answers (HasField p c.args.cell b) c.jump_field.result)
    (sym (le-ltb c.args.word 2048 (omega (arith, c.get.ensures.value, c.if-get-lt2048.false)))) (c.jump_field.ensures.field p is)
