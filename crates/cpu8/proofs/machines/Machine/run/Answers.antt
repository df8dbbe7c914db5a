use Rattle.std.proofs.Common.{◌+◌, ◌≤◌, rules, None, Some, arith, refl, ◌∙◌, sym}
use Rattle.cpu8.proofs.GoLemmas.{after-none, printed-begun, state-stepped, printed-stepped, reason-stepped, goes-none, go-stopped, go-ended}
use Rattle.cpu8.proofs.QuietLemmas.{state-run, printed-run, has-run, run-broken, run-goes}
use Rattle.cpu8.proofs.machines.Machine.run.Goals as goal

pub returns-then-not-self-clause-steps : goal.returns-then-not-self-clause-steps
returns-then-not-self-clause-steps c = go-stopped c.args.quick c.args.breaks.now c.args.self.now c.args.n (search rules)

pub returns-then-not-self-clause-state : goal.returns-then-not-self-clause-state
returns-then-not-self-clause-state c = sym (after-none c.args.quick c.args.self.now)

pub returns-then-not-self-clause-printed : goal.returns-then-not-self-clause-printed
returns-then-not-self-clause-printed c = printed-begun c.args.quick c.args.self.now c.args.printed.now.items

pub loop-made-init : goal.loop-made-init
loop-made-init c = (
  sym (after-none c.args.quick c.args.self.now),
  printed-begun c.args.quick c.args.self.now c.args.printed.now.items,
  goes-none c.args.quick c.args.breaks.now c.args.self.now (search rules),
  omega arith,
  refl,
  omega arith,
)

pub returns-in-Some-clause-steps : goal.returns-in-Some-clause-steps
returns-in-Some-clause-steps c =
    go-ended c.args.quick c.args.breaks.now c.args.self.now c.args.n c.loop-made.made c.in-Some.why c.loop-made.invariant.2 c.loop-made-test.true
    (reason-stepped c.args.quick c.args.breaks.now c.loop-made.made c.args.self.now c.loop-made.self c.advance.new.self (Some c.in-Some.why)
    c.loop-made.invariant.0 c.in-Some.ensures.state c.in-Some.ensures.reason)

pub returns-in-Some-clause-state : goal.returns-in-Some-clause-state
returns-in-Some-clause-state c =
    state-stepped c.args.quick c.loop-made.made c.args.self.now c.loop-made.self c.advance.new.self c.loop-made.invariant.0 c.in-Some.ensures.state

pub returns-in-Some-clause-printed : goal.returns-in-Some-clause-printed
returns-in-Some-clause-printed c =
    printed-stepped c.args.quick c.loop-made.made c.args.self.now c.loop-made.self c.args.printed.now.items c.loop-made.printed.items c.advance.new.printed.items
    c.loop-made.invariant.0 c.loop-made.invariant.1 c.in-Some.ensures.printed

pub returns-in-Some-break_ahead-clause-steps : goal.returns-in-Some-break_ahead-clause-steps
returns-in-Some-break_ahead-clause-steps c =
    let at = state-stepped c.args.quick c.loop-made.made c.args.self.now c.loop-made.self c.advance.new.self c.loop-made.invariant.0 c.advance.ensures.state in
    let now = state-run c.args.quick (c.loop-made.made + 1) c.run_quietly-made.result c.args.self.now c.advance.new.self c.run_quietly-made.new.self at c.run_quietly-made.ensures.state in
    let within : (c.loop-made.made + 1 + c.run_quietly-made.result) ≤ c.args.n = omega (arith, c.loop-made-test.true, c.run_quietly-made.ensures.within) in
    run-broken c.args.quick c.args.breaks.now c.args.self.now c.run_quietly-made.new.self c.args.n (c.loop-made.made + 1 + c.run_quietly-made.result) c.in-Some-break_ahead.why
    (has-run c.args.quick c.args.breaks.now c.loop-made.made c.run_quietly-made.result c.args.self.now c.advance.new.self at c.loop-made.invariant.2
    (reason-stepped c.args.quick c.args.breaks.now c.loop-made.made c.args.self.now c.loop-made.self c.advance.new.self None
    c.loop-made.invariant.0 c.advance.ensures.state (sym c.in_default.is ∙ c.advance.ensures.reason)) c.run_quietly-made.ensures.quiet) now within (sym c.in-Some-break_ahead.is ∙ c.break_ahead.ensures)

pub returns-in-Some-break_ahead-clause-state : goal.returns-in-Some-break_ahead-clause-state
returns-in-Some-break_ahead-clause-state c =
    let at = state-stepped c.args.quick c.loop-made.made c.args.self.now c.loop-made.self c.advance.new.self c.loop-made.invariant.0 c.advance.ensures.state in
    state-run c.args.quick (c.loop-made.made + 1) c.run_quietly-made.result c.args.self.now c.advance.new.self c.run_quietly-made.new.self at c.run_quietly-made.ensures.state

pub returns-in-Some-break_ahead-clause-printed : goal.returns-in-Some-break_ahead-clause-printed
returns-in-Some-break_ahead-clause-printed c =
    let at = state-stepped c.args.quick c.loop-made.made c.args.self.now c.loop-made.self c.advance.new.self c.loop-made.invariant.0 c.advance.ensures.state in
    printed-run c.args.quick c.args.breaks.now (c.loop-made.made + 1) c.run_quietly-made.result c.args.self.now c.advance.new.self c.args.printed.now.items c.advance.new.printed.items at
    c.run_quietly-made.ensures.quiet (printed-stepped c.args.quick c.loop-made.made c.args.self.now c.loop-made.self c.args.printed.now.items c.loop-made.printed.items c.advance.new.printed.items
    c.loop-made.invariant.0 c.loop-made.invariant.1 c.advance.ensures.printed)

pub loop-made-preserved : goal.loop-made-preserved
loop-made-preserved c =
    let at = state-stepped c.args.quick c.loop-made.made c.args.self.now c.loop-made.self c.advance.new.self c.loop-made.invariant.0 c.advance.ensures.state in
    let now = state-run c.args.quick (c.loop-made.made + 1) c.run_quietly-made.result c.args.self.now c.advance.new.self c.run_quietly-made.new.self at c.run_quietly-made.ensures.state in (
      now,
      printed-run c.args.quick c.args.breaks.now (c.loop-made.made + 1) c.run_quietly-made.result c.args.self.now c.advance.new.self c.args.printed.now.items c.advance.new.printed.items at
          c.run_quietly-made.ensures.quiet (printed-stepped c.args.quick c.loop-made.made c.args.self.now c.loop-made.self c.args.printed.now.items c.loop-made.printed.items c.advance.new.printed.items
          c.loop-made.invariant.0 c.loop-made.invariant.1 c.advance.ensures.printed),
      run-goes c.args.quick c.args.breaks.now c.args.self.now c.run_quietly-made.new.self (c.loop-made.made + 1 + c.run_quietly-made.result)
          (has-run c.args.quick c.args.breaks.now c.loop-made.made c.run_quietly-made.result c.args.self.now c.advance.new.self at c.loop-made.invariant.2
          (reason-stepped c.args.quick c.args.breaks.now c.loop-made.made c.args.self.now c.loop-made.self c.advance.new.self None
          c.loop-made.invariant.0 c.advance.ensures.state (sym c.in_default.is ∙ c.advance.ensures.reason)) c.run_quietly-made.ensures.quiet) now (sym c.in_default-break_ahead.is ∙ c.break_ahead.ensures),
      omega (arith, c.loop-made.invariant.3, c.advance.ensures.len),
      c.advance.ensures.capacity ∙ c.loop-made.invariant.4,
      omega (arith, c.loop-made-test.true, c.run_quietly-made.ensures.within),
    )
