use Rattle.system_session.proofs.sessions.Session.mount.Goals as goal

pub invariant_of-result : goal.invariant_of-result
invariant_of-result g c = (c.new.ensures.settled c.in_ok-files.files c.in_ok-files.ensures.fresh.3 c.in_ok-files.ensures.fresh.1, c.in-Ok.ensures.line)
