use Rattle.history8.proofs.ListLemmas.{steps-counted}
use Rattle.history8.proofs.entries.step_count_of.Goals as goal

pub returns-in-Steps : goal.returns-in-Steps
returns-in-Steps c = steps-counted c.in-Steps.quick c.in-Steps.count c.args.entry c.in-Steps.is
