use Rattle.std.proofs.Common.{ℕ, Option, sym, subst, ap, ◌∙◌}
use Rattle.pointer_flow.specs.Questions.{AnswersCall}
use Rattle.pointer_flow.specs.Tables.{IsFlowOf}
use Rattle.pointer_flow.proofs.QuestionLemmas.{answers_call, no_call}
use Rattle.pointer_flow.proofs.flows.Flow.call.Goals as goal

pub returns-in_err-word : goal.returns-in_err-word
returns-in_err-word c = λ p is.
    let told = subst (IsFlowOf p) (sym c.self.view_is) is in
    subst (AnswersCall p c.args.cell) (sym c.from_residual.ensures) (no_call p c.args.cell (ap (λ (f : ℕ → Option ℕ). f c.args.cell) told.facts.words_are ∙ sym c.in_err-word.ensures))

pub returns : goal.returns
returns c = λ p is.
    let told = subst (IsFlowOf p) (sym c.self.view_is) is in
    answers_call p _ told c.args.cell c.in_ok-word.word c.earliest_call.result
    (ap (λ (f : ℕ → Option ℕ). f c.args.cell) told.facts.words_are ∙ sym c.in_ok-word.ensures) (c.earliest_call.ensures p told.facts)
