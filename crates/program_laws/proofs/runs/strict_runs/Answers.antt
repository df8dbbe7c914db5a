use Rattle.program_laws.proofs.RunLemmas.{none-refused}
use Rattle.program_laws.proofs.runs.strict_runs.Goals as goal

pub returns-clause-strict : goal.returns-clause-strict
returns-clause-strict g c form is_typed image session before after old new r = none-refused form is_typed image session _ old new r

pub returns-clause-others : goal.returns-clause-others
returns-clause-others g c saving is_refused why fault answer result ends = ends
