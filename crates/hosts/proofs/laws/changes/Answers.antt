use Rattle.hosts.proofs.Crashes.{no_more}
use Rattle.hosts.proofs.laws.changes.Goals as goal

pub returns : goal.returns
returns c = no_more
