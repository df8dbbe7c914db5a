use Rattle.volume_jobs.proofs.LoadLemmas.{complete, laid_over}
use Rattle.volume_jobs.proofs.loading.Loading.lay.Goals as goal

pub lay-requires : goal.lay-requires
lay-requires g c = complete c.requires.0 c.args.self c.requires.1

pub returns-clause-core : goal.returns-clause-core
returns-clause-core g c = λ words is. laid_over words c.args.self c.args.core.now c.lay.new.core is c.lay.ensures
