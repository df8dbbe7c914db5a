use Rattle.instructions8.proofs.ShownLemmas.{shown}
use Rattle.instructions8.proofs.laws.shown_names_are_the_tables.Goals as goal

pub returns : goal.returns
returns c = shown
