use Rattle.pal_asm.proofs.TextLemmas.{lexical_fault_is_told}
use Rattle.pal_asm.proofs.laws.lexical_fault_is_told.Goals as goal

pub returns : goal.returns
returns c = lexical_fault_is_told
