use Rattle.system_session.proofs.RefusalLemmas.{refused_others, refused_all}
use Rattle.system_session.proofs.laws.refusals.Goals as goal

pub returns-clause-others : goal.returns-clause-others
returns-clause-others c = refused_others

pub returns-clause-all : goal.returns-clause-all
returns-clause-all c = refused_all
