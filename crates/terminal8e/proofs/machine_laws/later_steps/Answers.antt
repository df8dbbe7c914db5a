use Rattle.terminal8e.proofs.LaterLemmas.{later-add, printed-add}
use Rattle.terminal8e.proofs.machine_laws.later_steps.Goals as goal

pub returns : goal.returns
returns g c = record { terminal = λ a b t. later-add g.M.TerminalMachine.acts a b t; printed = λ a b t. printed-add g.M.TerminalMachine.acts a b t }
