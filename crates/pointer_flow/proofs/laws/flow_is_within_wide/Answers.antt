use Rattle.pointer_flow.proofs.LawLemmas.{flow_wide}
use Rattle.pointer_flow.proofs.laws.flow_is_within_wide.Goals as goal

pub returns : goal.returns
returns c = flow_wide
