use Rattle.pal_lex.proofs.JoinLemmas.{join_goes_on}
use Rattle.pal_lex.proofs.laws.join_goes_on.Goals as goal

pub returns : goal.returns
returns c = join_goes_on
