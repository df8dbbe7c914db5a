use Rattle.program_laws.proofs.MachineLemmas.{run-unread}
use Rattle.program_laws.proofs.machines.unread_keys.Goals as goal

pub returns-clause-plain : goal.returns-clause-plain
returns-clause-plain g c form program before after old new p = run-unread _ _ old new p

pub returns-clause-others : goal.returns-clause-others
returns-clause-others g c form program before after old new p = run-unread _ _ old new p
