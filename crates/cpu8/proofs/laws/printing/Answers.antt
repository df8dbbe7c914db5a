use Rattle.cpu8.proofs.InstructionLemmas.{tsf_before, tsf_done}
use Rattle.cpu8.proofs.laws.printing.Goals as goal

pub returns : goal.returns
returns c = record { before = tsf_before; done = tsf_done }
