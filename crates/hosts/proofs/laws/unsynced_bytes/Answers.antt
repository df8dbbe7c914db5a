use Rattle.std.proofs.Common.{refl}
use Rattle.hosts.proofs.Crashes.{torn}
use Rattle.hosts.proofs.laws.unsynced_bytes.Goals as goal

pub returns : goal.returns
returns c = record { written = λ ok bytes p. refl; torn = λ p file e. torn p file e }
