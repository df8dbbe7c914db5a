use Rattle.cpu8e.proofs.UserLemmas.{step-requests}
use Rattle.cpu8e.proofs.laws.request_stays.Goals as goal

pub returns : goal.returns
returns c = step-requests
