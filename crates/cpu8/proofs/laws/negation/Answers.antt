use Rattle.cpu8.proofs.InstructionLemmas.{cia_ac}
use Rattle.cpu8.proofs.laws.negation.Goals as goal

pub returns : goal.returns
returns c = cia_ac
