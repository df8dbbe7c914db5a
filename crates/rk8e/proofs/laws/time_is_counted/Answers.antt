use Rattle.rk8e.proofs.LawLemmas.{time_passes, time_stays, time_ends, time_waits}
use Rattle.rk8e.proofs.laws.time_is_counted.Goals as goal

pub returns-clause-passes : goal.returns-clause-passes
returns-clause-passes c = time_passes

pub returns-clause-instructions : goal.returns-clause-instructions
returns-clause-instructions c = time_stays

pub returns-clause-ends : goal.returns-clause-ends
returns-clause-ends c = time_ends

pub returns-clause-stays : goal.returns-clause-stays
returns-clause-stays c = time_waits
