use Rattle.keeper_laws.proofs.OpenLemmas.{reads-held, script-held}
use Rattle.keeper_laws.proofs.laws.held_before_read.Goals as goal

pub returns-clause-changes : goal.returns-clause-changes
returns-clause-changes c form image old new opens = reads-held form old image new opens

pub returns-clause-runs : goal.returns-clause-runs
returns-clause-runs c form image old new opens = script-held form old image new opens
