use Rattle.std.proofs.Common.{refl, sym, ◌∙◌}
use Rattle.system_session.proofs.JobLemmas.{assemble_answered}
use Rattle.system_session.proofs.sessions.Session.assemble.Goals as goal

pub returns-clause-does : goal.returns-clause-does
returns-clause-does g c = rw (c.job_reply.ensures, ← c.self.view_is) (assemble_answered _ _ c.self.inside.jobs c.assemble.new.self c.args.to.now c.args.from.now _ _ _ (sym c.parse.ensures.name ∙ c.in-Some.is) c.in-Some-parse_names.ensures.names refl c.assemble.ensures)
