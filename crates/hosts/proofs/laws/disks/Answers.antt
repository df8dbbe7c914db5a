use Rattle.hosts.proofs.Crashes.{sound}
use Rattle.hosts.proofs.laws.disks.Goals as goal

pub returns : goal.returns
returns c = sound
