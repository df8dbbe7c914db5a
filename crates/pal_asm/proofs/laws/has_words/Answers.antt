use Rattle.pal_asm.proofs.LengthLemmas.{has_words}
use Rattle.pal_asm.proofs.laws.has_words.Goals as goal

pub returns : goal.returns
returns c = has_words
