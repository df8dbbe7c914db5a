use Rattle.std.proofs.Common.{◌<◌, sym, subst}
use Rattle.std.specs.Prelude.{IfSome}
use Rattle.pointer_flow.specs.Questions.{Answers, HasDataField}
use Rattle.pointer_flow.specs.Tables.{IsFlowOf}
use Rattle.pointer_flow.proofs.QuestionLemmas.{answers_data, data_range}
use Rattle.pointer_flow.proofs.flows.Flow.data_field.Goals as goal

pub returns : goal.returns
returns c = record {
  field = λ p is.
      let told = subst (IsFlowOf p) (sym c.self.view_is) is in
      subst (Answers (HasDataField p c.args.cell)) (sym c.settled_field.ensures) (answers_data p _ told c.args.cell c.settled_data.result c.settled_data.ensures);
  range = subst (λ o. IfSome o (λ field. field < 8)) (sym c.settled_field.ensures)
      (data_range c.self.inside.states.bits.items c.args.cell c.settled_data.result c.settled_data.ensures);
}
