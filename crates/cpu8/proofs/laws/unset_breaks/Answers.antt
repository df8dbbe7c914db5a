use Rattle.cpu8.proofs.UnsetLemmas.{go-unset}
use Rattle.cpu8.proofs.laws.unset_breaks.Goals as goal

pub returns : goal.returns
returns c = go-unset
