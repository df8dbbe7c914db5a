use Rattle.std.proofs.Common.{Bool, arith, subst}
use Rattle.cpu8e.specs.Unasked.{AreUnasked}
use Rattle.terminal8e.proofs.QuickLemmas.{goes-unasked}
use Rattle.terminal8e.proofs.processors.MachineTerminalMachine.make_quick_steps.Goals as goal

pub returns-clause-steps : goal.returns-clause-steps
returns-clause-steps c =
    goes-unasked c.args.self.now c.run_unasked.new.self c.args.since c.run_unasked.result c.run_unasked.ensures.state
    (subst (λ (b : Bool). AreUnasked b c.args.self.now c.run_unasked.result) c.is_late.ensures c.run_unasked.ensures.unasked)
    (λ m below. c.steps_before_look-most.ensures.sooner m (omega (arith, below, c.run_unasked.ensures.within)))
