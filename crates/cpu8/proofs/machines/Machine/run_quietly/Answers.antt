use Rattle.std.proofs.Common.{sym, ap, ◌∙◌}
use Rattle.cpu8.specs.Go.{is_break}
use Rattle.cpu8.proofs.GoLemmas.{after-none}
use Rattle.cpu8.proofs.QuietLemmas.{state-run, quiet-run}
use Rattle.cpu8.proofs.machines.Machine.run_quietly.Goals as goal

pub returns-then-not-begins_quietly-clause-state : goal.returns-then-not-begins_quietly-clause-state
returns-then-not-begins_quietly-clause-state c = sym (after-none c.args.quick c.args.self.now)

pub returns-clause-state : goal.returns-clause-state
returns-clause-state c =
    state-run c.args.quick c.run_settled-made.result c.run_with_transfers.result c.args.self.now c.run_settled-made.new.self c.run_with_transfers.new.self
    c.run_settled-made.ensures.state c.run_with_transfers.ensures.state

pub returns-clause-quiet : goal.returns-clause-quiet
returns-clause-quiet c =
    quiet-run c.args.quick c.args.breaks.now c.run_settled-made.result c.run_with_transfers.result c.args.self.now c.run_settled-made.new.self
    c.run_settled-made.ensures.state c.run_settled-made.ensures.quiet
    (λ _. ap (λ cell. is_break c.args.breaks.now cell) (sym c.next_cell.ensures.value) ∙ (sym c.is_break.ensures ∙ c.if-is_break.false))
    c.run_with_transfers.ensures.quiet
