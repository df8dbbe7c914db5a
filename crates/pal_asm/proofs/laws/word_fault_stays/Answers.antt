use Rattle.pal_asm.proofs.TextLemmas.{word_fault_stays}
use Rattle.pal_asm.proofs.laws.word_fault_stays.Goals as goal

pub returns : goal.returns
returns c = word_fault_stays
