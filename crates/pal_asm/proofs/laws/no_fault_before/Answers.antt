use Rattle.pal_asm.proofs.TextLemmas.{no_fault_before_all}
use Rattle.pal_asm.proofs.laws.no_fault_before.Goals as goal

pub returns : goal.returns
returns c = no_fault_before_all
