use Rattle.std.proofs.Common.{Some, Ok, ap, sym, ◌∙◌}
use Rattle.terminal8e.specs.declared.operators.Operator.{Operator}
use Rattle.terminal8e.proofs.PartLemmas.{first-part, part-ends, part-fails, stopped-program}
use Rattle.terminal8e.proofs.runs.run_machine.Goals as goal

pub returns-then-not-is_running-clause-runs : goal.returns-then-not-is_running-clause-runs
returns-then-not-is_running-clause-runs g c =
    stopped-program g.M.TerminalMachine.acts c.args.form c.args.input c.args.n c.args.machine.now _ _ _ c.new.ensures (sym c.is_running.ensures ∙ c.if-not-is_running.true)

pub returns-in-Err-clause-runs : goal.returns-in-Err-clause-runs
returns-in-Err-clause-runs g c =
    let part = first-part g.M.TerminalMachine.acts c.args.form c.args.input c.new-sitting.result.operator.input c.args.n c.args.machine.now c.go_on.new.machine c.new-sitting.result c.go_on.new.self _ _ _ _
    c.go_on.result (ap (λ (o : Operator). o.input) c.new-sitting.ensures.operator) (c.go_on.ensures.runs c.args.machine.now c.args.form _ _) (c.new-sitting.ensures.begun _ _) in
    part-fails g.M.TerminalMachine.acts c.args.form c.args.input c.args.n c.args.machine.now c.go_on.new.machine c.go_on.new.self _ _ _ _ c.into_absences-in-Err.result c.go_on.result c.in-Err.fault
    c.in-Err.is c.into_absences-in-Err.ensures part

pub returns-in-Ok-Some-clause-runs : goal.returns-in-Ok-Some-clause-runs
returns-in-Ok-Some-clause-runs g c =
    let part = first-part g.M.TerminalMachine.acts c.args.form c.args.input c.new-sitting.result.operator.input c.args.n c.args.machine.now c.go_on.new.machine c.new-sitting.result c.go_on.new.self _ _ _ _
    c.go_on.result (ap (λ (o : Operator). o.input) c.new-sitting.ensures.operator) (c.go_on.ensures.runs c.args.machine.now c.args.form _ _) (c.new-sitting.ensures.begun _ _) in
    part-ends g.M.TerminalMachine.acts c.args.form c.args.input c.args.n c.args.machine.now c.go_on.new.machine c.go_on.new.self _ _ _ _ c.into_absences.result c.go_on.result c.in-Ok-Some.ended
    (c.in-Ok-Some.is ∙ ap (λ o. Ok o) c.in-Ok-Some.field-0-is) c.into_absences.ensures part
