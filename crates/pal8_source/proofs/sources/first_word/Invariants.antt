use Rattle.std.proofs.Common.{◌≡◌, ℕ, ◌<◌, false, is_some}
use Rattle.flow8.specs.Flow.{word_in}
use Rattle.pal8_source.proofs.sources.first_word.Given as goal

abbrev pub invariant-loop-number : goal.invariant-loop-number
invariant-loop-number l = (cell : ℕ) → cell < l.number → is_some (word_in l.words cell) ≡ false
