use Rattle.pal8_values.proofs.ReachLemmas.{literals_are_reached}
use Rattle.pal8_values.proofs.laws.literals_are_reached.Goals as goal

pub returns : goal.returns
returns c = literals_are_reached
