use Rattle.terminal8e.proofs.EndLemmas.{whole-run}
use Rattle.terminal8e.proofs.machine_laws.known_bytes.Goals as goal

pub returns : goal.returns
returns g c = λ form n old new bytes left writer written absences ended h. whole-run g.M.TerminalMachine.acts form n old new bytes left writer written absences ended h
