use Rattle.terminal8e.proofs.EndLemmas.{same-steps, same-end}
use Rattle.terminal8e.proofs.machine_laws.one_end.Goals as goal

pub returns : goal.returns
returns g c = record {
  steps = λ t n a b why other r q. same-steps g.M.TerminalMachine.acts t n a b why other r q;
  why = λ t n a b why other r q. same-end g.M.TerminalMachine.acts t n a b why other r q;
}
