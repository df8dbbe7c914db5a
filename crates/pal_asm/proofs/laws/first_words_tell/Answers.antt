use Rattle.pal_asm.proofs.TextLemmas.{first_words_tell}
use Rattle.pal_asm.proofs.laws.first_words_tell.Goals as goal

pub returns : goal.returns
returns c = first_words_tell
