use Rattle.std.proofs.Common.{ap, refl, sym, ◌∙◌, arith}
use Rattle.cpu8.specs.State.{next_cell}
use Rattle.cpu8e.specs.State.{State8e}
use Rattle.pdp8e.specs.State.{Pdp8e}
use Rattle.trace8e.proofs.CountLemmas.{counts-room}
use Rattle.trace8e.proofs.ProfileRunLemmas.{begun, counted_on, ended_run, stopped_run}
use Rattle.trace8e.proofs.PaperLemmas.{more-steps, no-steps}
use Rattle.trace8e.proofs.runs.count_fetches.Goals as goal

pub returns-then-not-is_running : goal.returns-then-not-is_running
returns-then-not-is_running c =
    let run = stopped_run c.args.terminal.now c.args.n c.args.counts.now
    (ap (λ (m : Pdp8e). m.processor.base.running) (sym c.machine.ensures) ∙ ap (λ (s : State8e). s.base.running) (sym c.processor.ensures.processor) ∙ sym c.is_running.ensures ∙ c.if-not-is_running.true) c.requires.size c.requires.zero in
    record { run = run.run; terminal = run.terminal; counts = run.counts_are; papers = no-steps c.args.terminal.now c.args.papers.now }

pub loop-made-init : goal.loop-made-init
loop-made-init c = record {
  counting = begun c.args.terminal.now c.args.counts.now
      (ap (λ (m : Pdp8e). m.processor.base.running) (sym c.machine.ensures) ∙ ap (λ (s : State8e). s.base.running) (sym c.processor.ensures.processor) ∙ sym c.is_running.ensures ∙ c.if-not-is_running.false) c.requires.size c.requires.zero;
  within = omega arith;
  papers = no-steps c.args.terminal.now c.args.papers.now;
}

pub count_step-did-requires-clause-room : goal.count_step-did-requires-clause-room
count_step-did-requires-clause-room c =
    let i = c.loop-made.invariant in
    let room = counts-room c.loop-made.made c.args.terminal.now c.loop-made.counts (next_cell c.loop-made.terminal.machine.processor.base) i.counting.are in
    omega (arith, room, c.loop-made-test.true, c.requires.since)

pub returns-in-Some : goal.returns-in-Some
returns-in-Some c =
    let i = c.loop-made.invariant in
    let did = c.count_step-did.ensures in
    let run = ended_run c.args.terminal.now c.loop-made.terminal c.count_step-did.new.terminal c.args.n c.loop-made.made c.loop-made.counts
    c.count_step-did.new.counts c.count_step-did.result c.in-Some.why i.counting c.loop-made-test.true (sym c.starves.ensures ∙ c.if-starves.false)
    did.state did.answer did.cell did.counts (sym c.stop_of.ensures ∙ c.in-Some.is) in
    record {
      run = run.run;
      terminal = run.terminal;
      counts = run.counts_are;
      papers = more-steps c.args.terminal.now c.loop-made.terminal c.count_step-did.new.terminal _ c.args.papers.now c.loop-made.papers c.count_step-did.new.papers c.loop-made.made
          i.papers i.counting.going.at did.state refl did.papers;
    }

pub loop-made-preserved : goal.loop-made-preserved
loop-made-preserved c =
    let i = c.loop-made.invariant in
    let did = c.count_step-did.ensures in
    record {
      counting = counted_on c.args.terminal.now c.loop-made.terminal c.count_step-did.new.terminal c.loop-made.made c.loop-made.counts
          c.count_step-did.new.counts c.count_step-did.result i.counting (sym c.starves.ensures ∙ c.if-starves.false)
          did.state did.answer did.cell did.counts (sym c.stop_of.ensures ∙ c.in_default.is);
      within = omega (arith, c.loop-made-test.true);
      papers = more-steps c.args.terminal.now c.loop-made.terminal c.count_step-did.new.terminal _ c.args.papers.now c.loop-made.papers c.count_step-did.new.papers c.loop-made.made
          i.papers i.counting.going.at did.state refl did.papers;
    }
