use Rattle.pal8_values.proofs.ReachLemmas.{links_are_reached}
use Rattle.pal8_values.proofs.laws.links_are_reached.Goals as goal

pub returns : goal.returns
returns c = links_are_reached
