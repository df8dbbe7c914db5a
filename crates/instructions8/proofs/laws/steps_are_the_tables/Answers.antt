use Rattle.instructions8.proofs.StepLemmas.{done}
use Rattle.instructions8.proofs.laws.steps_are_the_tables.Goals as goal

pub returns : goal.returns
returns c = done
