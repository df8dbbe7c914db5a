use Rattle.std.proofs.Common.{sym, ap, ◌∙◌}
use Rattle.cpu8.specs.State.{with_core}
use Rattle.cpu8.specs.Go.{is_break}
use Rattle.cpu8.proofs.GoLemmas.{after-none}
use Rattle.cpu8.proofs.QuietLemmas.{none-quiet, after-goes, quiet-goes}
use Rattle.cpu8.proofs.processors.Processor.run_with_transfers.Goals as goal

pub loop-steps-init : goal.loop-steps-init
loop-steps-init c =
    let s = with_core c.args.self.now c.args.core.now in record {
      state = sym (after-none c.args.quick s);
      quiet = none-quiet c.args.quick c.args.breaks.now s;
      goes_on = c.requires;
    }

pub loop-steps-preserved : goal.loop-steps-preserved
loop-steps-preserved c =
    let s = with_core c.args.self.now c.args.core.now in
    let old = with_core c.loop-steps.self c.loop-steps.core in
    let new = with_core c.step_quietly.new.self c.step_quietly.new.core in
    let i = c.loop-steps.invariant in
    let goes = c.if-not-step_quietly.ensures.does in record {
      state = after-goes c.args.quick c.loop-steps.steps s old new i.state i.goes_on goes;
      quiet = quiet-goes c.args.quick c.args.breaks.now c.loop-steps.steps s old new i.state i.goes_on
          (λ _. ap (λ cell. is_break c.args.breaks.now cell) (sym c.next_cell.ensures.value) ∙ (sym c.is_break.ensures ∙ c.if-is_break.false))
          goes i.quiet;
      goes_on = goes.quiet c.args.quick i.goes_on;
    }
