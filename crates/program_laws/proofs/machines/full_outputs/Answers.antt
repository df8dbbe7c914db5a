use Rattle.program_laws.proofs.MachineLemmas.{run-loses, trace-loses}
use Rattle.program_laws.proofs.machines.full_outputs.Goals as goal

pub returns-clause-plain : goal.returns-clause-plain
returns-clause-plain g c form program before after old new p = run-loses _ _ old new p

pub returns-clause-others : goal.returns-clause-others
returns-clause-others g c form program before after old new p = run-loses _ _ old new p

pub returns-clause-traces : goal.returns-clause-traces
returns-clause-traces g c disks devices most run old new p = trace-loses _ old new p
