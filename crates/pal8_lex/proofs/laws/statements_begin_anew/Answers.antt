use Rattle.pal8_lex.proofs.LawLemmas.{statements_begin_anew}
use Rattle.pal8_lex.proofs.laws.statements_begin_anew.Goals as goal

pub returns : goal.returns
returns c = statements_begin_anew
