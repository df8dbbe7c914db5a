use Rattle.std.proofs.Common.{Bool, subst, ◌+◌, ◌&&◌, ◌||◌, not, nat_le, arith, ap, sym, ◌∙◌}
use Rattle.cpu8e.specs.State.{State8e}
use Rattle.pdp8e.specs.Runs.{AreUnasked}
use Rattle.drive_files.proofs.QuickLemmas.{goes-unasked}
use Rattle.drive_files.proofs.consoles.ConsoleTerminalMachine.make_quick_steps.Goals as goal

pub returns-clause-steps : goal.returns-clause-steps
returns-clause-steps c =
    goes-unasked c.args.self.now c.run_unasked.new.self c.args.since c.run_unasked.result c.run_unasked.ensures.state
    (subst (λ (b : Bool). AreUnasked b c.args.self.now.machine c.run_unasked.result) c.is_late.ensures c.run_unasked.ensures.unasked)
    (λ j below.
    ap (λ (p : State8e). nat_le 30000 (c.args.since + j) && (not (nat_le 30000 c.args.since) || (p.base.interrupts_on && p.console_enabled))) (sym c.processor.ensures.processor)
    ∙ c.steps_before_look-most.ensures.sooner j (omega (arith, below, c.run_unasked.ensures.within)))
