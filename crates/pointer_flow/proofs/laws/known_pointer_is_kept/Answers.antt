use Rattle.pointer_flow.proofs.LawLemmas.{kept}
use Rattle.pointer_flow.proofs.laws.known_pointer_is_kept.Goals as goal

pub returns : goal.returns
returns c = kept
