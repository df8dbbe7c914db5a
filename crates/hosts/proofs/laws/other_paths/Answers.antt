use Rattle.hosts.proofs.Crashes.{others_stay}
use Rattle.hosts.proofs.laws.other_paths.Goals as goal

pub returns : goal.returns
returns c = others_stay
