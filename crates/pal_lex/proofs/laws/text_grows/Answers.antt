use Rattle.pal_lex.proofs.LawLemmas.{text_grows}
use Rattle.pal_lex.proofs.laws.text_grows.Goals as goal

pub returns : goal.returns
returns c = text_grows
