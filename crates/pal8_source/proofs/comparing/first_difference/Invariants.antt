use Rattle.std.proofs.Common.{◌≡◌, ℕ, ◌<◌}
use Rattle.flow8.specs.Flow.{word_in}
use Rattle.pal8_source.proofs.comparing.first_difference.Given as goal

abbrev pub invariant-loop-number : goal.invariant-loop-number
invariant-loop-number l = (cell : ℕ) → cell < l.number → word_in l.these cell ≡ word_in l.those cell
