use Rattle.system_session.proofs.ShownLemmas.{shown_runs}
use Rattle.system_session.proofs.laws.shown_runs.Goals as goal

pub returns : goal.returns
returns c = shown_runs
