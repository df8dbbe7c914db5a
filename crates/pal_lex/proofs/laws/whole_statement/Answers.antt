use Rattle.pal_lex.proofs.CoverLemmas.{has_all}
use Rattle.pal_lex.proofs.laws.whole_statement.Goals as goal

pub returns : goal.returns
returns c = has_all
