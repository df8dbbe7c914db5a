use Rattle.cpu8.proofs.InstructionLemmas.{tad_sum}
use Rattle.cpu8.proofs.laws.addition.Goals as goal

pub returns : goal.returns
returns c = tad_sum
