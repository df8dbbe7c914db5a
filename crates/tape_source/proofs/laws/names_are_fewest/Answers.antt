use Rattle.tape_source.proofs.FewestLemmas.{fewest_1, fewest_2}
use Rattle.tape_source.proofs.laws.names_are_fewest.Goals as goal

pub returns : goal.returns
returns c = record { group_1 = fewest_1; group_2 = fewest_2 }
