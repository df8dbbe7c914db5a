use Rattle.cpu8.proofs.InterruptLemmas.{cif-held, rmf-held, held-not_at_once, jmp-ends, jms-ends}
use Rattle.cpu8.proofs.laws.interrupts_held_off.Goals as goal

pub returns : goal.returns
returns c = record { cif = cif-held; rmf = rmf-held; none = held-not_at_once; jmp = jmp-ends; jms = jms-ends }
