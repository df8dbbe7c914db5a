use Rattle.pal_lex.proofs.MaximalLemmas.{runs_are_maximal}
use Rattle.pal_lex.proofs.laws.runs_are_maximal.Goals as goal

pub returns : goal.returns
returns c = runs_are_maximal
