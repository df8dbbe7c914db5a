use Rattle.pal_lex.proofs.JoinLemmas.{pause_joins}
use Rattle.pal_lex.proofs.laws.pause_joins.Goals as goal

pub returns : goal.returns
returns c = pause_joins
