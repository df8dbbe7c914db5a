use Rattle.std.proofs.Common.{sym, subst, ◌∙◌}
use Rattle.pointer_flow.specs.Tables.{IsFlowOf}
use Rattle.pointer_flow.proofs.flows.Flow.has_state.Goals as goal

pub returns : goal.returns
returns c = λ p is.
    let told = subst (IsFlowOf p) (sym c.self.view_is) is in
    let means = told.states.states c.args.state c.requires in
    (λ has. means.0 (sym c.has.ensures ∙ has), λ reached. c.has.ensures ∙ means.1 reached)
