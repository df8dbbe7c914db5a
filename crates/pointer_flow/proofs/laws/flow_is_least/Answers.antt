use Rattle.pointer_flow.proofs.LawLemmas.{least}
use Rattle.pointer_flow.proofs.laws.flow_is_least.Goals as goal

pub returns : goal.returns
returns c = least
