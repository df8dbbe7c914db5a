use Rattle.cpu8.proofs.TurnLemmas.{cll_cml-after}
use Rattle.cpu8.proofs.laws.link_set.Goals as goal

pub returns : goal.returns
returns c = cll_cml-after
