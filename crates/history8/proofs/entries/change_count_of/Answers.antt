use Rattle.history8.proofs.ListLemmas.{changes-counted}
use Rattle.history8.proofs.entries.change_count_of.Goals as goal

pub returns-in-Steps : goal.returns-in-Steps
returns-in-Steps c = changes-counted c.in-Steps.quick c.in-Steps.count c.args.entry c.in-Steps.is
