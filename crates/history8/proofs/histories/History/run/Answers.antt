use Rattle.std.proofs.Common.{◌≡◌, ◌-◌, length, refl, ap, sym, ◌∙◌, arith}
use Rattle.history8.specs.History.{machine_of, with_steps}
use Rattle.history8.proofs.EntryLemmas.{steps-length}
use Rattle.history8.proofs.RunLemmas.{machine-joined, part-some, run-ended, run-limit, run-stopped, steps-joined, way-begun, way-further}
use Rattle.history8.proofs.histories.History.run.Goals as goal

pub returns-then-not-is_running-clause-run : goal.returns-then-not-is_running-clause-run
returns-then-not-is_running-clause-run g c =
    run-stopped c.args.quick (g.W.Watch.condition c.args.watch.now) (machine_of c.args.self.now) c.args.most
    (sym (ap (λ s. s.running) c.machine.ensures) ∙ sym c.is_running.ensures ∙ c.if-not-is_running.true)

pub returns-then-not-is_running-clause-history : goal.returns-then-not-is_running-clause-history
returns-then-not-is_running-clause-history g c = refl

pub loop-steps-init : goal.loop-steps-init
loop-steps-init g c = record {
  way = way-begun c.args.quick (g.W.Watch.condition c.args.watch.now) (machine_of c.args.self.now)
      (sym (ap (λ s. s.running) c.machine.ensures) ∙ sym c.is_running.ensures ∙ c.if-not-is_running.false);
  within = omega arith;
  history = refl;
}

pub run_to_checkpoint-part-requires-clause-room : goal.run_to_checkpoint-part-requires-clause-room
run_to_checkpoint-part-requires-clause-room g c =
    let e = ap (λ h. length h.changes) c.loop-steps.invariant.history in
    let len = steps-length c.args.quick c.loop-steps.steps c.args.self.now.changes in
    omega (arith, e, len, c.requires, c.loop-steps-test.true)

pub overflow_add-steps : goal.overflow_add-steps
overflow_add-steps g c = omega (arith, c.run_to_checkpoint-part.ensures.run.within, c.loop-steps-test.true)

pub returns-then-not-is_limit : goal.returns-then-not-is_limit
returns-then-not-is_limit g c =
    let i = c.loop-steps.invariant in
    let p = c.run_to_checkpoint-part in
    record {
      run = run-ended c.args.quick (g.W.Watch.condition c.args.watch.now) (machine_of c.args.self.now) (machine_of c.loop-steps.self) c.loop-steps.steps (c.args.most - c.loop-steps.steps) c.args.most
          p.result.steps p.result.end i.way (machine-joined c.args.quick c.loop-steps.steps c.args.self.now c.loop-steps.self i.history) p.ensures.run refl
          c.loop-steps-test.true (sym c.is_limit.ensures ∙ c.if-not-is_limit.true);
      history = steps-joined c.args.quick c.loop-steps.steps p.result.steps c.args.self.now c.loop-steps.self p.new.self i.history p.ensures.history;
    }

pub loop-steps-preserved : goal.loop-steps-preserved
loop-steps-preserved g c =
    let i = c.loop-steps.invariant in
    let p = c.run_to_checkpoint-part in
    record {
      way = way-further c.args.quick (g.W.Watch.condition c.args.watch.now) (machine_of c.args.self.now) (machine_of c.loop-steps.self) c.loop-steps.steps (c.args.most - c.loop-steps.steps)
          p.result.steps p.result.end i.way (machine-joined c.args.quick c.loop-steps.steps c.args.self.now c.loop-steps.self i.history) p.ensures.run
          (sym c.is_limit.ensures ∙ c.if-not-is_limit.false);
      within = omega (arith, p.ensures.run.within, c.loop-steps-test.true);
      history = steps-joined c.args.quick c.loop-steps.steps p.result.steps c.args.self.now c.loop-steps.self p.new.self i.history p.ensures.history;
    }

pub loop-steps-smaller : goal.loop-steps-smaller
loop-steps-smaller g c =
    let p = c.run_to_checkpoint-part in
    let some = part-some c.args.quick (g.W.Watch.condition c.args.watch.now) (machine_of c.loop-steps.self) (c.args.most - c.loop-steps.steps) p.result.steps p.result.end p.ensures.run
    (sym c.is_limit.ensures ∙ c.if-not-is_limit.false) in
    omega (arith, some, p.ensures.run.within, c.loop-steps-test.true)

pub returns : goal.returns
returns g c =
    let i = c.loop-steps.invariant in
    let all : c.loop-steps.steps ≡ c.args.most = omega (arith, i.within, c.loop-steps-test.false) in
    record {
      run = run-limit c.args.quick (g.W.Watch.condition c.args.watch.now) (machine_of c.args.self.now) c.loop-steps.steps c.args.most i.way all;
      history = i.history ∙ ap (λ n. with_steps c.args.quick n c.args.self.now) all;
    }
