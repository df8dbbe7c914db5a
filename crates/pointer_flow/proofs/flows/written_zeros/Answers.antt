use Rattle.std.proofs.Common.{ℕ, false, ap, ◌∙◌}
use Rattle.flow8.specs.Flow.{word_in}
use Rattle.pointer_flow.specs.Steps.{is_written_zero}
use Rattle.pointer_flow.proofs.FlowLemmas.{pushed}
use Rattle.pointer_flow.proofs.flows.written_zeros.Goals as goal

pub loop-number-preserved : goal.loop-number-preserved
loop-number-preserved c =
    let at = λ (n : ℕ). is_written_zero (word_in c.args.words.now n) (word_in c.args.writers.now n) in
    let value = c.is_written_zero.ensures ∙ ap (λ o. is_written_zero o c.cell_at.result) c.word_at.ensures ∙ ap (λ o. is_written_zero (word_in c.args.words.now c.of-cell.result) o) c.cell_at.ensures.value
    ∙ ap at c.of-cell.ensures.number in
    pushed c.loop-number.flags.items c.push.new.self.items c.is_written_zero.result false c.loop-number.number at c.in_ok-push.ensures.items c.loop-number.invariant.0
    c.loop-number.invariant.1 value
