use Rattle.std.proofs.Common.{◌+◌, Bool, true, false, arith, refl, sym, subst, ◌∙◌}
use Rattle.std.proofs.lemmas.Result.{err_from_is_err_and}
use Rattle.terminal8.specs.declared.inputs.Input.{Input}
use Rattle.terminal8e.specs.AnySteps.{Attends}
use Rattle.terminal8e.proofs.PartLemmas.{running-of}
use Rattle.terminal8e.proofs.RunLemmas.{running-next, running-more, limit-run, starved-run, ended-run, unwritten-run, missed-run}
use Rattle.terminal8e.proofs.sittings.Sitting.make_steps.Goals as goal

pub loop-self-init : goal.loop-self-init
loop-self-init g c = record {
  running = λ first form before written come. rw (c.requires.paper) (running-of g.M.TerminalMachine.acts form c.args.self.now.operator.input first c.args.machine.now c.args.self.now before _ written _ _ come);
  input = refl;
  sooner = c.requires.within.1;
  within = omega (arith, c.requires.within.0, c.requires.most, c.min-last.ensures, c.saturating_add.ensures, c.min-last.type_inv);
  begun = omega arith;
}

pub returns-in_err-attend-clause-runs : goal.returns-in_err-attend-clause-runs
returns-in_err-attend-clause-runs g c first form before written come =
    let p = err_from_is_err_and c.from_residual.result c.from_residual.ensures.1 in
    let i = c.loop-self.invariant in
    rw (p.1, p.2)
    (missed-run g.M.TerminalMachine.acts form c.args.self.now.operator.input c.args.n first c.loop-self.machine c.attend.new.machine c.loop-self.self.operator.keyboard c.attend.new.self.keyboard
    c.loop-self.self.operator.ahead c.attend.new.self.ahead c.loop-self.self.operator.is_over c.loop-self.self.operator.since _ _ _ _ _ _ c.loop-self.paper c.attend.new.paper c.loop-self.self.absences
    c.loop-self.self.steps c.in_err-attend.field-0.0 (i.running first form before written come) (omega (arith, i.within, c.min-last.ensures)) c.in_err-attend.ensures.err c.in_err-attend.ensures.paper c.in_err-attend.ensures.same)

pub returns-then-branch-clause-runs : goal.returns-then-branch-clause-runs
returns-then-branch-clause-runs g c first form before written come =
    let i = c.loop-self.invariant in
    let attends = subst (λ (b : Bool). Attends g.M.TerminalMachine.acts c.loop-self.self.operator.input c.loop-self.self.operator.keyboard c.attend.new.self.keyboard c.loop-self.self.operator.ahead c.attend.new.self.ahead
    c.loop-self.self.operator.is_over c.attend.new.self.is_over c.loop-self.machine c.attend.new.machine c.loop-self.self.operator.since c.attend.new.self.since
    (g.R.ByteReader.remaining c.loop-self.reader) (g.R.ByteReader.remaining c.attend.new.reader) b) c.if-branch.true c.in_ok-attend.ensures.ok in
    let at = subst (λ (x : Input). Attends g.M.TerminalMachine.acts x c.loop-self.self.operator.keyboard c.attend.new.self.keyboard c.loop-self.self.operator.ahead c.attend.new.self.ahead
    c.loop-self.self.operator.is_over c.attend.new.self.is_over c.loop-self.machine c.attend.new.machine c.loop-self.self.operator.since c.attend.new.self.since
    (g.R.ByteReader.remaining c.loop-self.reader) (g.R.ByteReader.remaining c.attend.new.reader) true) i.input attends in
    starved-run g.M.TerminalMachine.acts form c.args.self.now.operator.input c.args.n first c.loop-self.machine c.attend.new.machine _ _ _ _ _ _ c.loop-self.self.operator.since c.attend.new.self.since
    _ _ _ _ _ _ c.loop-self.paper c.attend.new.paper c.loop-self.self.absences c.loop-self.self.steps (i.running first form before written come) (omega (arith, c.loop-self-test.true, c.min-last.ensures)) at c.in_ok-attend.ensures.paper

pub returns-in_err-did-clause-runs : goal.returns-in_err-did-clause-runs
returns-in_err-did-clause-runs g c first form before written come =
    let p = err_from_is_err_and c.from_residual-in_err-did.result c.from_residual-in_err-did.ensures.1 in
    let i = c.loop-self.invariant in
    let attends = subst (λ (b : Bool). Attends g.M.TerminalMachine.acts c.loop-self.self.operator.input c.loop-self.self.operator.keyboard c.attend.new.self.keyboard c.loop-self.self.operator.ahead c.attend.new.self.ahead
    c.loop-self.self.operator.is_over c.attend.new.self.is_over c.loop-self.machine c.attend.new.machine c.loop-self.self.operator.since c.attend.new.self.since
    (g.R.ByteReader.remaining c.loop-self.reader) (g.R.ByteReader.remaining c.attend.new.reader) b) c.if-branch.false c.in_ok-attend.ensures.ok in
    let at = subst (λ (x : Input). Attends g.M.TerminalMachine.acts x c.loop-self.self.operator.keyboard c.attend.new.self.keyboard c.loop-self.self.operator.ahead c.attend.new.self.ahead
    c.loop-self.self.operator.is_over c.attend.new.self.is_over c.loop-self.machine c.attend.new.machine c.loop-self.self.operator.since c.attend.new.self.since
    (g.R.ByteReader.remaining c.loop-self.reader) (g.R.ByteReader.remaining c.attend.new.reader) false) i.input attends in
    rw (p.1, p.2, c.in_err-did.ensures.err)
    (unwritten-run g.M.TerminalMachine.acts form c.args.self.now.operator.input c.args.n first c.loop-self.machine c.attend.new.machine c.step.new.machine _ _ _ _ _ _
    c.loop-self.self.operator.since c.attend.new.self.since _ _ _ _ _ c.loop-self.paper c.loop-self.self.absences c.loop-self.self.steps (i.running first form before written come) (omega (arith, c.loop-self-test.true, c.min-last.ensures)) at c.step.ensures.state)

pub returns-in-Some-clause-runs : goal.returns-in-Some-clause-runs
returns-in-Some-clause-runs g c first form before written come =
    let i = c.loop-self.invariant in
    let attends = subst (λ (b : Bool). Attends g.M.TerminalMachine.acts c.loop-self.self.operator.input c.loop-self.self.operator.keyboard c.attend.new.self.keyboard c.loop-self.self.operator.ahead c.attend.new.self.ahead
    c.loop-self.self.operator.is_over c.attend.new.self.is_over c.loop-self.machine c.attend.new.machine c.loop-self.self.operator.since c.attend.new.self.since
    (g.R.ByteReader.remaining c.loop-self.reader) (g.R.ByteReader.remaining c.attend.new.reader) b) c.if-branch.false c.in_ok-attend.ensures.ok in
    let at = subst (λ (x : Input). Attends g.M.TerminalMachine.acts x c.loop-self.self.operator.keyboard c.attend.new.self.keyboard c.loop-self.self.operator.ahead c.attend.new.self.ahead
    c.loop-self.self.operator.is_over c.attend.new.self.is_over c.loop-self.machine c.attend.new.machine c.loop-self.self.operator.since c.attend.new.self.since
    (g.R.ByteReader.remaining c.loop-self.reader) (g.R.ByteReader.remaining c.attend.new.reader) false) i.input attends in
    let did = c.in_ok-did.ensures.ok in
    ended-run g.M.TerminalMachine.acts form c.args.self.now.operator.input c.args.n first c.loop-self.machine c.attend.new.machine c.step.new.machine _ _ _ _ _ _
    c.loop-self.self.operator.since c.attend.new.self.since _ _ _ _ _ _ _ c.loop-self.paper c.attend.new.paper c.step.new.paper c.loop-self.self.absences c.step.new.absences c.loop-self.self.steps
    c.in_ok-did.did c.in-Some.why (i.running first form before written come) (omega (arith, c.loop-self-test.true, c.min-last.ensures)) at c.in_ok-attend.ensures.paper c.step.ensures.state did.0 did.1 (sym c.stop_of.ensures ∙ c.in-Some.is) c.step.ensures.absences

pub loop-self-preserved : goal.loop-self-preserved
loop-self-preserved g c =
    let i = c.loop-self.invariant in
    let attends = subst (λ (b : Bool). Attends g.M.TerminalMachine.acts c.loop-self.self.operator.input c.loop-self.self.operator.keyboard c.attend.new.self.keyboard c.loop-self.self.operator.ahead c.attend.new.self.ahead
    c.loop-self.self.operator.is_over c.attend.new.self.is_over c.loop-self.machine c.attend.new.machine c.loop-self.self.operator.since c.attend.new.self.since
    (g.R.ByteReader.remaining c.loop-self.reader) (g.R.ByteReader.remaining c.attend.new.reader) b) c.if-branch.false c.in_ok-attend.ensures.ok in
    let at = subst (λ (x : Input). Attends g.M.TerminalMachine.acts x c.loop-self.self.operator.keyboard c.attend.new.self.keyboard c.loop-self.self.operator.ahead c.attend.new.self.ahead
    c.loop-self.self.operator.is_over c.attend.new.self.is_over c.loop-self.machine c.attend.new.machine c.loop-self.self.operator.since c.attend.new.self.since
    (g.R.ByteReader.remaining c.loop-self.reader) (g.R.ByteReader.remaining c.attend.new.reader) false) i.input attends in
    let did = c.in_ok-did.ensures.ok in
    record {
      running = λ first form before written come. running-more g.M.TerminalMachine.acts form c.args.self.now.operator.input first c.step.new.machine c.make_quick_steps-more.new.self _ _ _ (c.attend.new.self.since + 1)
          _ _ _ _ c.step.new.paper c.step.new.absences (c.loop-self.self.steps + 1) c.make_quick_steps-more.result
          (running-next g.M.TerminalMachine.acts form c.args.self.now.operator.input first c.loop-self.machine c.attend.new.machine c.step.new.machine _ _ _ _ _ _
          c.loop-self.self.operator.since c.attend.new.self.since _ _ _ _ _ _ _ c.loop-self.paper c.attend.new.paper c.step.new.paper c.loop-self.self.absences c.step.new.absences c.loop-self.self.steps
          c.in_ok-did.did (i.running first form before written come) at c.in_ok-attend.ensures.paper c.step.ensures.state did.0 did.1 (sym c.stop_of.ensures ∙ c.in_default.is) c.step.ensures.absences)
          c.make_quick_steps-more.ensures.steps;
      input = c.in_ok-attend.ensures.input ∙ i.input;
      sooner = omega (arith, at.sooner, i.sooner);
      within = omega (arith, c.loop-self-test.true, c.make_quick_steps-more.ensures.within);
      begun = omega (arith, i.begun);
    }

pub returns-clause-runs : goal.returns-clause-runs
returns-clause-runs g c first form before written come =
    limit-run g.M.TerminalMachine.acts form c.args.self.now.operator.input c.args.n first c.loop-self.machine _ _ _ c.loop-self.self.operator.since _ _ _ _ c.loop-self.paper c.loop-self.self.absences c.loop-self.self.steps
    (c.loop-self.invariant.running first form before written come) (omega (arith, c.if-self-n.false, c.loop-self.invariant.within, c.min-last.ensures))
