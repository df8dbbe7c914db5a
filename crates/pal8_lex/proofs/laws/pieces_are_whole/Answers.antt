use Rattle.pal8_lex.proofs.LawLemmas.{pieces_are_whole}
use Rattle.pal8_lex.proofs.laws.pieces_are_whole.Goals as goal

pub returns : goal.returns
returns c = pieces_are_whole
