use Rattle.cpu8.proofs.StepLemmas.{step-keeps}
use Rattle.cpu8.proofs.laws.running.Goals as goal

pub returns : goal.returns
returns c = λ s. (step-keeps s).running
