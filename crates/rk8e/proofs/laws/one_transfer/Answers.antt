use Rattle.rk8e.proofs.SettledLemmas.{new_settled, instruction_settled, time_settled, cleared_settled, ends_settled}
use Rattle.rk8e.proofs.laws.one_transfer.Goals as goal

pub returns-clause-new : goal.returns-clause-new
returns-clause-new c = new_settled

pub returns-clause-instructions : goal.returns-clause-instructions
returns-clause-instructions c = instruction_settled

pub returns-clause-time : goal.returns-clause-time
returns-clause-time c = time_settled

pub returns-clause-clearing : goal.returns-clause-clearing
returns-clause-clearing c = cleared_settled

pub returns-clause-ends : goal.returns-clause-ends
returns-clause-ends c = ends_settled
