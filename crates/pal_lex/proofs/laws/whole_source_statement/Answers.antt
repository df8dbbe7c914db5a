use Rattle.pal_lex.proofs.SourceSpanLemmas.{source_has_all}
use Rattle.pal_lex.proofs.laws.whole_source_statement.Goals as goal

pub returns : goal.returns
returns c = source_has_all
