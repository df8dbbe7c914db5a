use Rattle.pal_lex.proofs.SourceSpanLemmas.{source_spans}
use Rattle.pal_lex.proofs.laws.source_spans.Goals as goal

pub returns : goal.returns
returns c = source_spans
