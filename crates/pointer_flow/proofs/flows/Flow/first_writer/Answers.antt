use Rattle.std.proofs.Common.{sym, subst, ap, ◌∙◌}
use Rattle.flow8.specs.Flow.{word_in}
use Rattle.pointer_flow.specs.Questions.{AnswersWriter}
use Rattle.pointer_flow.specs.Tables.{IsFlowOf}
use Rattle.pointer_flow.proofs.flows.Flow.first_writer.Goals as goal

pub returns : goal.returns
returns c = λ p is.
    let told = subst (IsFlowOf p) (sym c.self.view_is) is in
    subst (AnswersWriter p c.args.cell) (sym (c.cell_at.ensures.value ∙ ap (λ l. word_in l c.args.cell) c.deref.ensures.value))
    (told.writers c.args.cell c.cell_at.ensures.range)
