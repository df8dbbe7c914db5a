use Rattle.hosts.proofs.Crashes.{saved_alone}
use Rattle.hosts.proofs.laws.saved_files.Goals as goal

pub returns : goal.returns
returns c = saved_alone
