use Rattle.terminal8e.proofs.PartLemmas.{broken-run}
use Rattle.terminal8e.proofs.sittings.Sitting.end_at_break.Goals as goal

pub returns-clause-runs : goal.returns-clause-runs
returns-clause-runs g c first form before left written contents come =
    broken-run g.M.TerminalMachine.acts form c.args.self.now.operator.input first c.args._machine.now c.args.self.now before left written contents come
