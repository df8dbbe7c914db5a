use Rattle.program.specs.Changes.{DoesChange}
use Rattle.program_laws.proofs.TryLemmas.{once}
use Rattle.program_laws.proofs.tries.busy_tries.Goals as goal

pub returns-clause-changes : goal.returns-clause-changes
returns-clause-changes c seconds name change old result new within = (within.few, within.ends)

pub returns-clause-runs : goal.returns-clause-runs
returns-clause-runs c seconds name saving form old result new within = (within.few, within.ends)

pub returns-clause-boots : goal.returns-clause-boots
returns-clause-boots c seconds name old result new within = (within.few, within.ends)

pub returns-clause-once : goal.returns-clause-once
returns-clause-once c name change = once name (DoesChange change)
