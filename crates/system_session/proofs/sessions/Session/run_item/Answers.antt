use Rattle.std.proofs.Common.{ap}
use Rattle.system_session.specs.Session.{state_of}
use Rattle.system_session.proofs.ToldLemmas.{refused_told}
use Rattle.system_session.proofs.sessions.Session.run_item.Goals as goal

pub returns-in-Refused-clause-told : goal.returns-in-Refused-clause-told
returns-in-Refused-clause-told g c first quiet =
    let told = c.refuse.ensures.told first in
    rw (c.in-Refused.is) (refused_told _ _ _ _ _ told.0 _ (ap state_of c.refuse.ensures.same) told.1 told.2)

pub returns-in-Do-clause-told : goal.returns-in-Do-clause-told
returns-in-Do-clause-told g c first quiet = rw (c.in-Do.is) (c.run_entry.ensures.told first quiet)

pub returns-in-Finish-clause-told : goal.returns-in-Finish-clause-told
returns-in-Finish-clause-told g c first quiet = rw (c.in-Finish.is) (c.run_finish.ensures.told first quiet)
