use Rattle.std.proofs.Common.{ap, sym, ◌∙◌}
use Rattle.debug8.specs.Breaks.{count_breaks}
use Rattle.debug8.proofs.BreakLemmas.{none-set}
use Rattle.debug8.proofs.debuggers.Debugger.go.Goals as goal

pub returns-then-self-eq0-clause-steps : goal.returns-then-self-eq0-clause-steps
returns-then-self-eq0-clause-steps c =
    let none = none-set c.args.self.now (sym (ap count_breaks c.self.view_is) ∙ (sym c.self.invariant.1 ∙ c.if-self-eq0.true)) in
    c.unset_breaks.ensures c.args.quick c.args.self.now c.args.machine.now c.args.n c.run.result.steps c.run.result.why none c.run.ensures.steps
