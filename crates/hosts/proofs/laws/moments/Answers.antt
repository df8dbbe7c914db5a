use Rattle.hosts.proofs.Crashes.{ever_keeps}
use Rattle.hosts.proofs.laws.moments.Goals as goal

pub returns : goal.returns
returns c = ever_keeps
