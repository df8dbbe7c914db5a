use Rattle.std.proofs.Common.{rules, refl}
use Rattle.system_session.proofs.sessions.Session.run_text.Goals as goal

pub returns-clause-told : goal.returns-clause-told
returns-clause-told g c quiet =
    let name = c.run_watched.ensures.kept c.new.result refl in
    let lent = c.run_watched.ensures.reader c.new-watched.result refl in
    search (rules, c.run_watched.ensures.told quiet)

pub returns-clause-taken : goal.returns-clause-taken
returns-clause-taken g c =
    let lent = c.run_watched.ensures.reader c.new-watched.result refl in
    search (rules, c.run_watched.ensures.taken)
