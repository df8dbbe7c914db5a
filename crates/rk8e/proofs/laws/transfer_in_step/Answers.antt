use Rattle.rk8e.proofs.StepLemmas.{written_in_step, read_in_step, others_in_step}
use Rattle.rk8e.proofs.laws.transfer_in_step.Goals as goal

pub returns-clause-written : goal.returns-clause-written
returns-clause-written c = written_in_step

pub returns-clause-read : goal.returns-clause-read
returns-clause-read c = read_in_step

pub returns-clause-others : goal.returns-clause-others
returns-clause-others c = others_in_step
