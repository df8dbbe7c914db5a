use Rattle.pointer_flow.proofs.LawLemmas.{direct_wide}
use Rattle.pointer_flow.proofs.laws.direct_is_within_wide.Goals as goal

pub returns : goal.returns
returns c = direct_wide
