use Rattle.program_laws.proofs.ReadLemmas.{busy-reason, unread-holds, unread-looks}
use Rattle.program_laws.proofs.reads.unread_reasons.Goals as goal

pub returns-clause-looks : goal.returns-clause-looks
returns-clause-looks c = unread-looks

pub returns-clause-holds : goal.returns-clause-holds
returns-clause-holds c = unread-holds

pub returns-clause-busy : goal.returns-clause-busy
returns-clause-busy c seconds name old new within = busy-reason name within.after new within.told
