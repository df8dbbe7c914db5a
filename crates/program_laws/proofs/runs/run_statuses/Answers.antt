use Rattle.program_laws.proofs.RunStatusLemmas.{with-zero}
use Rattle.program_laws.proofs.runs.run_statuses.Goals as goal

pub returns : goal.returns
returns g c named form is_typed before after old new runs = with-zero named form is_typed _ old new runs
