use Rattle.terminal8.proofs.EndLemmas.{whole-run}
use Rattle.terminal8.proofs.laws.known_bytes.Goals as goal

pub returns : goal.returns
returns c = λ form n old new bytes left writer written absences ended h. whole-run form n old new bytes left writer written absences ended h
