use Rattle.pal8_lex.proofs.LawLemmas.{statements_stay}
use Rattle.pal8_lex.proofs.laws.statements_stay.Goals as goal

pub returns : goal.returns
returns c = statements_stay
