use Rattle.pal_lex.proofs.MaximalLemmas.{runs_end}
use Rattle.pal_lex.proofs.laws.runs_end.Goals as goal

pub returns : goal.returns
returns c = runs_end
