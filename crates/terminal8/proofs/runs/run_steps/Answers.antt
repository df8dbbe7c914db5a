use Rattle.std.proofs.Common.{◌+◌, Bool, true, false, arith, ap, sym, subst, ◌∙◌}
use Rattle.std.proofs.lemmas.Result.{err_from_is_err_and}
use Rattle.terminal8.specs.Absences.{with_absence_if}
use Rattle.terminal8.specs.RunSteps.{Attends}
use Rattle.terminal8.specs.declared.inputs.Input.{Input}
use Rattle.terminal8.proofs.RunLemmas.{begun, running-next, running-more}
use Rattle.terminal8.proofs.RunEndLemmas.{stopped-run, limit-run, starved-run, ended-run, unwritten-run, missed-run}
use Rattle.terminal8.proofs.runs.run_steps.Goals as goal

pub returns-then-not-is_running-clause-runs : goal.returns-then-not-is_running-clause-runs
returns-then-not-is_running-clause-runs g c =
    stopped-run c.args.form c.args.input c.args.n c.args.machine.now _ _ c.args.paper.now c.args.absences.now c.requires.paper c.requires.absences (sym c.is_running.ensures ∙ c.if-not-is_running.true)

pub loop-made-init : goal.loop-made-init
loop-made-init g c =
    rw (c.new-operator.ensures.keyboard, c.new-operator.ensures.ahead, c.new-operator.ensures.is_over, c.new-operator.ensures.since) (record {
      running = rw (c.requires.paper, c.requires.absences) (begun c.args.form c.args.input c.args.machine.now _ _ (sym c.is_running.ensures ∙ c.if-not-is_running.false));
      input = c.new-operator.ensures.input;
      sooner = omega arith;
      within = omega arith;
    })

pub returns-in_err-attend-clause-runs : goal.returns-in_err-attend-clause-runs
returns-in_err-attend-clause-runs g c =
    let p = err_from_is_err_and c.from_residual.result c.from_residual.ensures.1 in
    let i = c.loop-made.invariant in
    rw (p.1, p.2)
    (missed-run c.args.form c.args.input c.args.n c.args.machine.now c.loop-made.machine c.attend.new.machine c.loop-made.operator.keyboard c.attend.new.self.keyboard
    c.loop-made.operator.ahead c.attend.new.self.ahead c.loop-made.operator.is_over c.loop-made.operator.since _ _ _ _ _ _ c.loop-made.paper c.attend.new.paper c.loop-made.absences
    c.loop-made.made c.in_err-attend.field-0.0 i.running i.within c.in_err-attend.ensures.err c.in_err-attend.ensures.paper c.in_err-attend.ensures.same)

pub returns-then-branch-clause-runs : goal.returns-then-branch-clause-runs
returns-then-branch-clause-runs g c =
    let i = c.loop-made.invariant in
    let attends = subst (λ (b : Bool). Attends c.loop-made.operator.input c.loop-made.operator.keyboard c.attend.new.self.keyboard c.loop-made.operator.ahead c.attend.new.self.ahead
    c.loop-made.operator.is_over c.attend.new.self.is_over c.loop-made.machine c.attend.new.machine c.loop-made.operator.since c.attend.new.self.since
    (g.R.ByteReader.remaining c.loop-made.reader) (g.R.ByteReader.remaining c.attend.new.reader) b) c.if-branch.true c.in_ok-attend.ensures.ok in
    let at = subst (λ (x : Input). Attends x c.loop-made.operator.keyboard c.attend.new.self.keyboard c.loop-made.operator.ahead c.attend.new.self.ahead
    c.loop-made.operator.is_over c.attend.new.self.is_over c.loop-made.machine c.attend.new.machine c.loop-made.operator.since c.attend.new.self.since
    (g.R.ByteReader.remaining c.loop-made.reader) (g.R.ByteReader.remaining c.attend.new.reader) true) i.input attends in
    starved-run c.args.form c.args.input c.args.n c.args.machine.now c.loop-made.machine c.attend.new.machine _ _ _ _ _ _ c.loop-made.operator.since c.attend.new.self.since
    _ _ _ _ _ _ c.loop-made.paper c.attend.new.paper c.loop-made.absences c.loop-made.made i.running c.loop-made-test.true at c.in_ok-attend.ensures.paper

pub returns-in_err-did-clause-runs : goal.returns-in_err-did-clause-runs
returns-in_err-did-clause-runs g c =
    let p = err_from_is_err_and c.from_residual-in_err-did.result c.from_residual-in_err-did.ensures.1 in
    let i = c.loop-made.invariant in
    let attends = subst (λ (b : Bool). Attends c.loop-made.operator.input c.loop-made.operator.keyboard c.attend.new.self.keyboard c.loop-made.operator.ahead c.attend.new.self.ahead
    c.loop-made.operator.is_over c.attend.new.self.is_over c.loop-made.machine c.attend.new.machine c.loop-made.operator.since c.attend.new.self.since
    (g.R.ByteReader.remaining c.loop-made.reader) (g.R.ByteReader.remaining c.attend.new.reader) b) c.if-branch.false c.in_ok-attend.ensures.ok in
    let at = subst (λ (x : Input). Attends x c.loop-made.operator.keyboard c.attend.new.self.keyboard c.loop-made.operator.ahead c.attend.new.self.ahead
    c.loop-made.operator.is_over c.attend.new.self.is_over c.loop-made.machine c.attend.new.machine c.loop-made.operator.since c.attend.new.self.since
    (g.R.ByteReader.remaining c.loop-made.reader) (g.R.ByteReader.remaining c.attend.new.reader) false) i.input attends in
    rw (p.1, p.2, c.in_err-did.ensures.err)
    (unwritten-run c.args.form c.args.input c.args.n c.args.machine.now c.loop-made.machine c.attend.new.machine c.step.new.machine _ _ _ _ _ _
    c.loop-made.operator.since c.attend.new.self.since _ _ _ _ _ c.loop-made.paper c.loop-made.absences c.loop-made.made i.running c.loop-made-test.true at c.step.ensures.state)

pub returns-in-Some-clause-runs : goal.returns-in-Some-clause-runs
returns-in-Some-clause-runs g c =
    let i = c.loop-made.invariant in
    let attends = subst (λ (b : Bool). Attends c.loop-made.operator.input c.loop-made.operator.keyboard c.attend.new.self.keyboard c.loop-made.operator.ahead c.attend.new.self.ahead
    c.loop-made.operator.is_over c.attend.new.self.is_over c.loop-made.machine c.attend.new.machine c.loop-made.operator.since c.attend.new.self.since
    (g.R.ByteReader.remaining c.loop-made.reader) (g.R.ByteReader.remaining c.attend.new.reader) b) c.if-branch.false c.in_ok-attend.ensures.ok in
    let at = subst (λ (x : Input). Attends x c.loop-made.operator.keyboard c.attend.new.self.keyboard c.loop-made.operator.ahead c.attend.new.self.ahead
    c.loop-made.operator.is_over c.attend.new.self.is_over c.loop-made.machine c.attend.new.machine c.loop-made.operator.since c.attend.new.self.since
    (g.R.ByteReader.remaining c.loop-made.reader) (g.R.ByteReader.remaining c.attend.new.reader) false) i.input attends in
    let did = c.in_ok-did.ensures.ok in
    ended-run c.args.form c.args.input c.args.n c.args.machine.now c.loop-made.machine c.attend.new.machine c.step.new.machine _ _ _ _ _ _
    c.loop-made.operator.since c.attend.new.self.since _ _ _ _ _ _ _ c.loop-made.paper c.attend.new.paper c.step.new.paper c.loop-made.absences c.add.new.self c.loop-made.made
    c.in_ok-did.did c.in-Some.why i.running c.loop-made-test.true at c.in_ok-attend.ensures.paper c.step.ensures.state did.0 did.1 (sym c.stop_of.ensures ∙ c.in-Some.is)
    (c.add.ensures ∙ ap (λ it. with_absence_if it c.loop-made.absences) c.absence_at-absence.ensures)

pub loop-made-preserved : goal.loop-made-preserved
loop-made-preserved g c =
    let i = c.loop-made.invariant in
    let attends = subst (λ (b : Bool). Attends c.loop-made.operator.input c.loop-made.operator.keyboard c.attend.new.self.keyboard c.loop-made.operator.ahead c.attend.new.self.ahead
    c.loop-made.operator.is_over c.attend.new.self.is_over c.loop-made.machine c.attend.new.machine c.loop-made.operator.since c.attend.new.self.since
    (g.R.ByteReader.remaining c.loop-made.reader) (g.R.ByteReader.remaining c.attend.new.reader) b) c.if-branch.false c.in_ok-attend.ensures.ok in
    let at = subst (λ (x : Input). Attends x c.loop-made.operator.keyboard c.attend.new.self.keyboard c.loop-made.operator.ahead c.attend.new.self.ahead
    c.loop-made.operator.is_over c.attend.new.self.is_over c.loop-made.machine c.attend.new.machine c.loop-made.operator.since c.attend.new.self.since
    (g.R.ByteReader.remaining c.loop-made.reader) (g.R.ByteReader.remaining c.attend.new.reader) false) i.input attends in
    let did = c.in_ok-did.ensures.ok in
    let stepped = running-next c.args.form c.args.input c.args.machine.now c.loop-made.machine c.attend.new.machine c.step.new.machine _ _ _ _ _ _
    c.loop-made.operator.since c.attend.new.self.since _ _ _ _ _ _ _ c.loop-made.paper c.attend.new.paper c.step.new.paper c.loop-made.absences c.add.new.self c.loop-made.made
    c.in_ok-did.did i.running at c.in_ok-attend.ensures.paper c.step.ensures.state did.0 did.1 (sym c.stop_of.ensures ∙ c.in_default.is)
    (c.add.ensures ∙ ap (λ it. with_absence_if it c.loop-made.absences) c.absence_at-absence.ensures) in
    record {
      running = running-more c.args.form c.args.input c.args.machine.now c.step.new.machine c.go_on-more.new.machine _ _ _ (c.attend.new.self.since + 1) _ _ _ _ c.step.new.paper c.add.new.self
          (c.loop-made.made + 1) c.go_on-more.result stepped c.go_on-more.ensures.state c.go_on-more.ensures.answers c.go_on-more.ensures.asks c.go_on-more.ensures.absences;
      input = c.in_ok-attend.ensures.input ∙ i.input;
      sooner = omega (arith, at.sooner, i.sooner);
      within = omega (arith, c.loop-made-test.true, c.go_on-more.ensures.within);
    }

pub returns-clause-runs : goal.returns-clause-runs
returns-clause-runs g c =
    let i = c.loop-made.invariant in
    limit-run c.args.form c.args.input c.args.n c.args.machine.now c.loop-made.machine _ _ _ c.loop-made.operator.since _ _ _ _ c.loop-made.paper c.loop-made.absences c.loop-made.made
    i.running (omega (arith, c.loop-made-test.false, i.within))
