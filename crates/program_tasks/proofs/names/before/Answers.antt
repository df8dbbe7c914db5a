use Rattle.program_tasks.proofs.NameLemmas.{before_end}
use Rattle.program_tasks.proofs.names.before.Goals as goal

pub returns : goal.returns
returns c = before_end c.strip_suffix.result c.args.end.now c.args.name.now c.strip_suffix.ensures.cases
