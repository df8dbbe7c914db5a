use Rattle.std.proofs.Common.{◌≡◌, ℕ, ◌<◌, length}
use Rattle.flow8.specs.Flow.{word_in}
use Rattle.pointer_flow.specs.Steps.{unwritten_word}
use Rattle.pointer_flow.proofs.flows.unwritten_words.Given as goal

abbrev pub invariant-loop-number : goal.invariant-loop-number
invariant-loop-number l =
    (length l.unwritten.items ≡ l.number)
    × ((cell : ℕ) → cell < l.number → word_in l.unwritten.items cell ≡ unwritten_word (word_in l.words cell) (word_in l.writers cell))
