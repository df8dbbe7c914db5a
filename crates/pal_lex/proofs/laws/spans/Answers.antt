use Rattle.pal_lex.proofs.SpanLemmas.{spans}
use Rattle.pal_lex.proofs.laws.spans.Goals as goal

pub returns : goal.returns
returns c = spans
