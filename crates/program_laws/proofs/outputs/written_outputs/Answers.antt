use Rattle.program_laws.proofs.OutputLemmas.{outputs-end, zero-outputs}
use Rattle.program_laws.proofs.outputs.written_outputs.Goals as goal

pub returns-clause-ends : goal.returns-clause-ends
returns-clause-ends g c form old new onto p = outputs-end form old tt new onto p

pub returns-clause-zero : goal.returns-clause-zero
returns-clause-zero g c form is_typed before after old new from onto p = zero-outputs form is_typed _ from onto old new p
