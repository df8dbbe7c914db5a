use Rattle.pdp8e.proofs.WaitLemmas.{waits_on}
use Rattle.pdp8e.proofs.laws.waiting.Goals as goal

pub returns : goal.returns
returns c = λ m k is still waits. waits_on c.request_stays.ensures c.waiting.ensures.state m k is still waits
