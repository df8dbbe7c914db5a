use Rattle.cpu8.proofs.StepLemmas.{step-keeps}
use Rattle.cpu8.proofs.laws.core_size.Goals as goal

pub returns : goal.returns
returns c = λ s. (step-keeps s).size
