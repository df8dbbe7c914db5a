use Rattle.pal_lex.proofs.LawLemmas.{ends_source}
use Rattle.pal_lex.proofs.laws.dollar_ends_source.Goals as goal

pub returns : goal.returns
returns c = ends_source
