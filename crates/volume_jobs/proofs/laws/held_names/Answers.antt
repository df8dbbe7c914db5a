use Rattle.volume_jobs.proofs.SettledLemmas.{held_same}
use Rattle.volume_jobs.proofs.laws.held_names.Goals as goal

pub returns : goal.returns
returns c = λ volume jobs name settled. held_same c.counted_holds.ensures.held volume jobs name settled
