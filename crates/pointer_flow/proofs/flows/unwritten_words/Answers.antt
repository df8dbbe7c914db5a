use Rattle.std.proofs.Common.{ℕ, None, ap, ◌∙◌}
use Rattle.flow8.specs.Flow.{word_in}
use Rattle.pointer_flow.specs.Steps.{unwritten_word}
use Rattle.pointer_flow.proofs.FlowLemmas.{pushed}
use Rattle.pointer_flow.proofs.flows.unwritten_words.Goals as goal

pub loop-number-preserved : goal.loop-number-preserved
loop-number-preserved c =
    let at = λ (n : ℕ). unwritten_word (word_in c.args.words.now n) (word_in c.args.writers.now n) in
    let value = c.unwritten_word.ensures ∙ ap (λ o. unwritten_word o c.cell_at.result) c.word_at.ensures ∙ ap (λ o. unwritten_word (word_in c.args.words.now c.of-cell.result) o) c.cell_at.ensures.value
    ∙ ap at c.of-cell.ensures.number in
    pushed c.loop-number.unwritten.items c.push.new.self.items c.unwritten_word.result None c.loop-number.number at c.in_ok-push.ensures.items c.loop-number.invariant.0
    c.loop-number.invariant.1 value
