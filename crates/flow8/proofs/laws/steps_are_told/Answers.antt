use Rattle.flow8.proofs.LawLemmas.{told}
use Rattle.flow8.proofs.laws.steps_are_told.Goals as goal

pub returns : goal.returns
returns c = told
