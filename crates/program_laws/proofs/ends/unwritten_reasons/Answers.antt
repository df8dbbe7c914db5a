use Rattle.program_laws.proofs.EndLemmas.{has-reason}
use Rattle.program_laws.proofs.ends.unwritten_reasons.Goals as goal

pub returns : goal.returns
returns c = has-reason
