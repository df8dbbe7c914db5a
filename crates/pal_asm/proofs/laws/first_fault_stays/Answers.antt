use Rattle.pal_asm.proofs.TextLemmas.{first_fault_stays}
use Rattle.pal_asm.proofs.laws.first_fault_stays.Goals as goal

pub returns : goal.returns
returns c = first_fault_stays
