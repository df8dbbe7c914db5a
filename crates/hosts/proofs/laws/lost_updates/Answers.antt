use Rattle.hosts.proofs.Turns.{own_changes}
use Rattle.hosts.proofs.laws.lost_updates.Goals as goal

pub returns : goal.returns
returns c = own_changes
