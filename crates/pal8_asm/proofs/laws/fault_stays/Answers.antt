use Rattle.pal8_asm.proofs.SourceLemmas.{text_fault_stays}
use Rattle.pal8_asm.proofs.laws.fault_stays.Goals as goal

pub returns : goal.returns
returns c = text_fault_stays
