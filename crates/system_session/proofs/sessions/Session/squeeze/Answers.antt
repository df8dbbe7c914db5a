use Rattle.std.proofs.Common.{refl}
use Rattle.system_session.proofs.JobLemmas.{squeeze_answered}
use Rattle.system_session.proofs.sessions.Session.squeeze.Goals as goal

pub returns-clause-does : goal.returns-clause-does
returns-clause-does g c = rw (c.job_reply.ensures, ← c.self.view_is) (squeeze_answered _ _ c.self.inside.jobs c.squeeze.new.self _ refl c.squeeze.ensures)
