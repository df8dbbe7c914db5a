use Rattle.instructions8.proofs.ShownLemmas.{first_group, second_group}
use Rattle.instructions8.proofs.laws.groups_are_the_tables.Goals as goal

pub returns : goal.returns
returns c = record { group_1 = first_group; group_2 = second_group }
