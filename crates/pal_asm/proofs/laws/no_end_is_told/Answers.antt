use Rattle.pal_asm.proofs.TextLemmas.{no_end_is_told}
use Rattle.pal_asm.proofs.laws.no_end_is_told.Goals as goal

pub returns : goal.returns
returns c = no_end_is_told
