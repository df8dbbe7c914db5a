use Rattle.program_laws.proofs.RunLemmas.{holds-volume}
use Rattle.program_laws.proofs.runs.ended_runs.Goals as goal

pub returns : goal.returns
returns g c form is_typed image session before after old new start r saved seen = holds-volume form is_typed image session _ old new r saved start seen
