use Rattle.std.proofs.Common.{◌+◌, ◌-◌, ap, sym, ◌∙◌, arith}
use Rattle.cpu8.specs.State.{State, next_cell}
use Rattle.profile8.proofs.CountLemmas.{counts-far, counts-room}
use Rattle.profile8.proofs.RunLemmas.{begun, counted_far, counted_on, ended_run, stopped_run}
use Rattle.profile8.proofs.runs.count_fetches.Goals as goal

pub returns-then-not-is_running : goal.returns-then-not-is_running
returns-then-not-is_running c =
    let run = stopped_run c.args.terminal.now c.args.n c.args.counts.now
    (ap (λ (s : State). s.running) (sym c.machine.ensures) ∙ sym c.is_running.ensures ∙ c.if-not-is_running.true) c.requires.size c.requires.zero in
    record { run = run.run; terminal = run.terminal; counts = run.counts_are }

pub loop-made-init : goal.loop-made-init
loop-made-init c = record {
  counting = begun c.args.terminal.now c.args.counts.now
      (ap (λ (s : State). s.running) (sym c.machine.ensures) ∙ sym c.is_running.ensures ∙ c.if-not-is_running.false) c.requires.size c.requires.zero;
  within = omega arith;
}

pub count_step-did-requires-clause-room : goal.count_step-did-requires-clause-room
count_step-did-requires-clause-room c =
    let i = c.loop-made.invariant in
    let room = counts-room c.loop-made.made c.args.terminal.now c.loop-made.counts (next_cell c.loop-made.terminal.machine) i.counting.are in
    omega (arith, room, c.loop-made-test.true, c.requires.since)

pub returns-in-Some : goal.returns-in-Some
returns-in-Some c =
    let i = c.loop-made.invariant in
    let did = c.count_step-did.ensures in
    let run = ended_run c.args.terminal.now c.loop-made.terminal c.count_step-did.new.terminal c.args.n c.loop-made.made c.loop-made.counts
    c.count_step-did.new.counts c.count_step-did.result c.in-Some.why i.counting c.loop-made-test.true (sym c.starves.ensures ∙ c.if-starves.false)
    did.state did.answer did.cell did.counts (sym c.stop_of.ensures ∙ c.in-Some.is) in
    record { run = run.run; terminal = run.terminal; counts = run.counts_are }

pub go_on_counting-more-requires-clause-room : goal.go_on_counting-more-requires-clause-room
go_on_counting-more-requires-clause-room c =
    let i = c.loop-made.invariant in
    let did = c.count_step-did.ensures in
    let stepped = counted_on c.args.terminal.now c.loop-made.terminal c.count_step-did.new.terminal c.loop-made.made c.loop-made.counts
    c.count_step-did.new.counts c.count_step-did.result i.counting (sym c.starves.ensures ∙ c.if-starves.false)
    did.state did.answer did.cell did.counts (sym c.stop_of.ensures ∙ c.in_default.is) in
    counts-far (c.loop-made.made + 1) (c.args.n - (c.loop-made.made + 1)) c.args.terminal.now c.count_step-did.new.counts stepped.are
    (omega (arith, c.loop-made-test.true, c.requires.since))

pub loop-made-preserved : goal.loop-made-preserved
loop-made-preserved c =
    let i = c.loop-made.invariant in
    let did = c.count_step-did.ensures in
    let more = c.go_on_counting-more.ensures in
    let stepped = counted_on c.args.terminal.now c.loop-made.terminal c.count_step-did.new.terminal c.loop-made.made c.loop-made.counts
    c.count_step-did.new.counts c.count_step-did.result i.counting (sym c.starves.ensures ∙ c.if-starves.false)
    did.state did.answer did.cell did.counts (sym c.stop_of.ensures ∙ c.in_default.is) in
    record {
      counting = counted_far c.args.terminal.now c.count_step-did.new.terminal c.go_on_counting-more.new.self (c.loop-made.made + 1) c.go_on_counting-more.result
          c.count_step-did.new.counts c.go_on_counting-more.new.counts c.waiting.ensures.asks c.later_steps.ensures.terminal stepped
          more.state more.answers more.asks more.counts;
      within = omega (arith, c.loop-made-test.true, more.within);
    }
