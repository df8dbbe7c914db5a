use Rattle.std.proofs.Common.{◌<◌, sym, subst}
use Rattle.std.specs.Prelude.{IfSome}
use Rattle.pointer_flow.specs.Questions.{Answers, HasJumpField}
use Rattle.pointer_flow.specs.Tables.{IsFlowOf}
use Rattle.pointer_flow.proofs.QuestionLemmas.{answers_jump, jump_range}
use Rattle.pointer_flow.proofs.flows.Flow.jump_field.Goals as goal

pub returns : goal.returns
returns c = record {
  field = λ p is.
      let told = subst (IsFlowOf p) (sym c.self.view_is) is in
      subst (Answers (HasJumpField p c.args.cell)) (sym c.settled_field.ensures) (answers_jump p _ told c.args.cell c.settled_jump.result c.settled_jump.ensures);
  range = subst (λ o. IfSome o (λ field. field < 8)) (sym c.settled_field.ensures)
      (jump_range c.self.inside.states.bits.items c.args.cell c.settled_jump.result c.settled_jump.ensures);
}
