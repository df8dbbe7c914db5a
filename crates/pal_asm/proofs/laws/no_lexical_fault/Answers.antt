use Rattle.pal_asm.proofs.TextLemmas.{no_lexical_fault}
use Rattle.pal_asm.proofs.laws.no_lexical_fault.Goals as goal

pub returns : goal.returns
returns c = no_lexical_fault
