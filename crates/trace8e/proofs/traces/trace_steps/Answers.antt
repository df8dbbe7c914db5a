use Rattle.std.proofs.Common.{arith, ap, refl, sym, ◌∙◌}
use Rattle.std.proofs.lemmas.Result.{err_from_is_err_and}
use Rattle.cpu8e.specs.State.{State8e}
use Rattle.pdp8e.specs.State.{Pdp8e}
use Rattle.tape_source.specs.Tags.{is_flagged}
use Rattle.trace8e.proofs.RunLemmas.{begun, step-traced, stopped-trace, starved-trace, limit-trace, ended-trace, unwritten-trace, refused-trace}
use Rattle.trace8e.proofs.PaperLemmas.{all-steps, more-steps, no-steps, some-more, some-steps}
use Rattle.trace8e.proofs.traces.trace_steps.Goals as goal

pub returns-then-not-is_running-clause-traces : goal.returns-then-not-is_running-clause-traces
returns-then-not-is_running-clause-traces g c =
    stopped-trace (is_flagged c.args.tags.now) c.args.n c.args.terminal.now _ c.args.lines.now.items c.requires.none
    (ap (λ (m : Pdp8e). m.processor.base.running) (sym c.machine.ensures) ∙ ap (λ (s : State8e). s.base.running) (sym c.processor.ensures.processor) ∙ sym c.is_running.ensures ∙ c.if-not-is_running.true)

pub loop-made-init : goal.loop-made-init
loop-made-init g c = record {
  tracing = begun (is_flagged c.args.tags.now) c.args.terminal.now _ c.args.lines.now.items c.requires.none
      (ap (λ (m : Pdp8e). m.processor.base.running) (sym c.machine.ensures) ∙ ap (λ (s : State8e). s.base.running) (sym c.processor.ensures.processor) ∙ sym c.is_running.ensures ∙ c.if-not-is_running.false);
  within = omega arith;
  papers = no-steps c.args.terminal.now c.args.papers.now;
}

pub returns-then-starves-clause-traces : goal.returns-then-starves-clause-traces
returns-then-starves-clause-traces g c =
    starved-trace (is_flagged c.args.tags.now) c.args.n c.args.terminal.now c.loop-made.terminal _ _ c.loop-made.lines.items c.loop-made.made
    c.loop-made.invariant.tracing c.loop-made-test.true (sym c.starves.ensures ∙ c.if-starves.true)

pub returns-in_err-hand_on-clause-traces : goal.returns-in_err-hand_on-clause-traces
returns-in_err-hand_on-clause-traces g c =
    let p = err_from_is_err_and c.from_residual.result c.from_residual.ensures.1 in
    rw (p.1, p.2)
    (unwritten-trace (is_flagged c.args.tags.now) c.args.n c.args.terminal.now c.loop-made.terminal _ _ _ c.loop-made.lines.items c.hand_on.new.lines.items
    c.loop-made.made c.in_err-hand_on.field-0.0 c.loop-made.invariant.tracing c.loop-made.invariant.within c.in_err-hand_on.ensures.err)

pub trace_step-requires-clause-room : goal.trace_step-requires-clause-room
trace_step-requires-clause-room g c =
    let sooner = c.loop-made.invariant.tracing.sooner in
    omega (arith, sooner, c.loop-made-test.true, c.requires.room)

pub returns-in_err-did-clause-traces : goal.returns-in_err-did-clause-traces
returns-in_err-did-clause-traces g c =
    let p = err_from_is_err_and c.from_residual-in_err-did.result c.from_residual-in_err-did.ensures.1 in
    rw (p.1)
    (refused-trace (is_flagged c.args.tags.now) c.args.n c.args.terminal.now c.loop-made.terminal c.trace_step.new.terminal _ _ _ c.loop-made.lines.items
    c.hand_on.new.lines.items c.trace_step.new.lines.items c.loop-made.made p.0 c.loop-made.invariant.tracing c.loop-made-test.true
    (sym c.starves.ensures ∙ c.if-starves.false) c.in_ok-hand_on.ensures.ok c.in_err-did.ensures.terminal)

pub returns-in-Some-clause-traces : goal.returns-in-Some-clause-traces
returns-in-Some-clause-traces g c =
    ended-trace (is_flagged c.args.tags.now) c.args.n c.args.terminal.now c.loop-made.terminal c.trace_step.new.terminal _ _ _ c.loop-made.lines.items
    c.hand_on.new.lines.items c.trace_step.new.lines.items c.loop-made.made c.in_ok-did.did c.in-Some.why c.loop-made.invariant.tracing c.loop-made-test.true
    (sym c.starves.ensures ∙ c.if-starves.false) c.in_ok-hand_on.ensures.ok c.in_ok-did.ensures.terminal c.in_ok-did.ensures.did c.in_ok-did.ensures.line
    (sym c.stop_of.ensures ∙ c.in-Some.is)

pub loop-made-preserved : goal.loop-made-preserved
loop-made-preserved g c = record {
  tracing = step-traced (is_flagged c.args.tags.now) c.args.terminal.now c.loop-made.terminal c.trace_step.new.terminal _ _ _ c.loop-made.lines.items
      c.hand_on.new.lines.items c.trace_step.new.lines.items c.loop-made.made c.in_ok-did.did c.loop-made.invariant.tracing
      (sym c.starves.ensures ∙ c.if-starves.false) c.in_ok-hand_on.ensures.ok c.in_ok-did.ensures.terminal c.in_ok-did.ensures.did c.in_ok-did.ensures.line
      (sym c.stop_of.ensures ∙ c.in_default.is);
  within = omega (arith, c.loop-made-test.true);
  papers = more-steps c.args.terminal.now c.loop-made.terminal c.trace_step.new.terminal _ c.args.papers.now c.loop-made.papers c.trace_step.new.papers c.loop-made.made
      c.loop-made.invariant.papers c.loop-made.invariant.tracing.terminal c.in_ok-did.ensures.terminal refl c.in_ok-did.ensures.papers;
}

pub returns-clause-traces : goal.returns-clause-traces
returns-clause-traces g c =
    limit-trace (is_flagged c.args.tags.now) c.args.n c.args.terminal.now c.loop-made.terminal _ _ c.loop-made.lines.items c.loop-made.made
    c.loop-made.invariant.tracing (omega (arith, c.loop-made-test.false, c.loop-made.invariant.within))

-- ## What is put on paper

pub returns-then-not-is_running-clause-papers : goal.returns-then-not-is_running-clause-papers
returns-then-not-is_running-clause-papers g c = no-steps c.args.terminal.now c.args.papers.now

pub returns-in_err-hand_on-clause-papers : goal.returns-in_err-hand_on-clause-papers
returns-in_err-hand_on-clause-papers g c =
    let p = err_from_is_err_and c.from_residual.result c.from_residual.ensures.1 in
    rw (p.1)
    (some-steps c.args.terminal.now c.loop-made.terminal c.args.papers.now c.loop-made.papers c.loop-made.made c.loop-made.invariant.tracing.terminal
    c.loop-made.invariant.papers)

pub returns-in_err-did-clause-papers : goal.returns-in_err-did-clause-papers
returns-in_err-did-clause-papers g c =
    let p = err_from_is_err_and c.from_residual-in_err-did.result c.from_residual-in_err-did.ensures.1 in
    rw (p.1)
    (some-more c.args.terminal.now c.loop-made.terminal c.trace_step.new.terminal _ c.args.papers.now c.loop-made.papers c.trace_step.new.papers c.loop-made.made
    c.loop-made.invariant.papers c.loop-made.invariant.tracing.terminal c.in_err-did.ensures.terminal refl c.in_err-did.ensures.papers)

pub returns-in-Some-clause-papers : goal.returns-in-Some-clause-papers
returns-in-Some-clause-papers g c =
    more-steps c.args.terminal.now c.loop-made.terminal c.trace_step.new.terminal _ c.args.papers.now c.loop-made.papers c.trace_step.new.papers c.loop-made.made
    c.loop-made.invariant.papers c.loop-made.invariant.tracing.terminal c.in_ok-did.ensures.terminal refl c.in_ok-did.ensures.papers

pub returns-clause-papers : goal.returns-clause-papers
returns-clause-papers g c =
    all-steps c.args.terminal.now c.args.papers.now c.loop-made.papers c.loop-made.made c.args.n (omega (arith, c.loop-made-test.false, c.loop-made.invariant.within))
    c.loop-made.invariant.papers
