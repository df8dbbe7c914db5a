use Rattle.keeper_laws.proofs.RescueLemmas.{rescue-ends}
use Rattle.keeper_laws.proofs.laws.ended_rescues.Goals as goal

pub returns : goal.returns
returns c = rescue-ends
