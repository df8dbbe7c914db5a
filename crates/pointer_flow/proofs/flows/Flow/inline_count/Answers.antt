use Rattle.std.proofs.Common.{sym, subst}
use Rattle.pointer_flow.specs.Tables.{IsFlowOf}
use Rattle.pointer_flow.proofs.flows.Flow.inline_count.Goals as goal

pub returns : goal.returns
returns c = λ p is. let told = subst (IsFlowOf p) (sym c.self.view_is) is in c.inline_count.ensures p told.facts
