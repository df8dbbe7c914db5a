use Rattle.debug8.proofs.SameLemmas.{same_state}
use Rattle.debug8.proofs.laws.snapshot_tells_all.Goals as goal

pub returns : goal.returns
returns c = same_state
