use Rattle.std.proofs.Common.{refl, sym, ◌∙◌}
use Rattle.system_session.proofs.JobLemmas.{load_answered}
use Rattle.system_session.proofs.sessions.Session.load.Goals as goal

pub returns-clause-does : goal.returns-clause-does
returns-clause-does g c = rw (c.job_reply.ensures, ← c.self.view_is) (load_answered _ _ c.self.inside.jobs c.load.new.self c.args.name.now _ _ (sym c.parse.ensures.name ∙ c.in-Some.is) refl c.load.ensures)
