use Rattle.pal_lex.proofs.LawLemmas.{stays}
use Rattle.pal_lex.proofs.laws.statements_stay.Goals as goal

pub returns : goal.returns
returns c = stays
