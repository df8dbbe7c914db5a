use Rattle.pal_asm.proofs.TextLemmas.{no_word_is_told}
use Rattle.pal_asm.proofs.laws.no_word_is_told.Goals as goal

pub returns : goal.returns
returns c = no_word_is_told
