use Rattle.pal_lex.proofs.BlankLemmas.{blanks_mean_nothing}
use Rattle.pal_lex.proofs.laws.blanks_mean_nothing.Goals as goal

pub returns : goal.returns
returns c = blanks_mean_nothing
