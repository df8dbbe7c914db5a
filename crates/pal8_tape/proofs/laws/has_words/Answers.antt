use Rattle.pal8_tape.proofs.WordLemmas.{has_words_in}
use Rattle.pal8_tape.proofs.laws.has_words.Goals as goal

pub returns : goal.returns
returns c = has_words_in
