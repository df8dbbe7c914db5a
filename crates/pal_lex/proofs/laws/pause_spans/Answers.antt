use Rattle.pal_lex.proofs.SourceSpanLemmas.{pause_spells, pause_has_all}
use Rattle.pal_lex.proofs.laws.pause_spans.Goals as goal

pub returns : goal.returns
returns c = record { spans = pause_spells; whole = pause_has_all }
