use Rattle.std.proofs.Common.{refl}
use Rattle.terminal8e.proofs.PartLemmas.{begun-part, operator-is}
use Rattle.terminal8e.proofs.sittings.Sitting.new.Goals as goal

pub returns-clause-begun : goal.returns-clause-begun
returns-clause-begun g c reader writer =
    begun-part g.M.TerminalMachine.acts c.args.form c.args.input c.args._machine.now _ reader writer
    (operator-is c.new.result c.args.form c.args.input c.new.ensures.keyboard c.new.ensures.ahead c.new.ensures.input c.new.ensures.is_over c.new.ensures.since)
    refl c.new-2.ensures c.requires
