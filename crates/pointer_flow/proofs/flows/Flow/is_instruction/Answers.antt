use Rattle.std.proofs.Common.{sym, subst}
use Rattle.pointer_flow.specs.Tables.{IsFlowOf}
use Rattle.pointer_flow.proofs.QuestionLemmas.{is_instruction}
use Rattle.pointer_flow.proofs.flows.Flow.is_instruction.Goals as goal

pub returns : goal.returns
returns c = λ p is.
    let told = subst (IsFlowOf p) (sym c.self.view_is) is in
    let means = is_instruction p _ told c.args.cell in
    (λ has. means.0 (c.has_any.ensures.0 has), λ found. c.has_any.ensures.1 (means.1 found))
