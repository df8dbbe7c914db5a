use Rattle.pal_lex.proofs.JoinLemmas.{pause_told}
use Rattle.pal_lex.proofs.laws.pause_is_bad.Goals as goal

pub returns : goal.returns
returns c = pause_told
