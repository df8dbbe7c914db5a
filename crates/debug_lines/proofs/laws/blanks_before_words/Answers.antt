use Rattle.debug_lines.proofs.BlankLemmas.{blank_keeps_texts}
use Rattle.debug_lines.proofs.LawLemmas.{blank_moves}
use Rattle.debug_lines.proofs.laws.blanks_before_words.Goals as goal

pub returns : goal.returns
returns c = record {
  places = blank_moves;
  texts = blank_keeps_texts;
}
