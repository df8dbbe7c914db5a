use Rattle.pdp8e.proofs.PartLemmas.{step_parts}
use Rattle.pdp8e.proofs.laws.step_has_parts.Goals as goal

pub returns : goal.returns
returns c = step_parts
