use Rattle.program_laws.proofs.OutputTouchLemmas.{onto-touch, outputs-touch}
use Rattle.program_laws.proofs.outputs.touched_outputs.Goals as goal

pub returns-clause-outputs : goal.returns-clause-outputs
returns-clause-outputs c = outputs-touch

pub returns-clause-onto : goal.returns-clause-onto
returns-clause-onto c = onto-touch
