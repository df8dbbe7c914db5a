use Rattle.cpu8.proofs.RunLemmas.{resumed}
use Rattle.cpu8.proofs.laws.interrupt_return.Goals as goal

pub returns : goal.returns
returns c = resumed
