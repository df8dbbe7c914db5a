use Rattle.pal8_lex.proofs.LawLemmas.{lines_end}
use Rattle.pal8_lex.proofs.laws.lines_end.Goals as goal

pub returns : goal.returns
returns c = lines_end
