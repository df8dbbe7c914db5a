use Rattle.std.proofs.Common.{◌≡◌}
use Rattle.flow8.specs.Flow.{word_in}
use Rattle.pal8_source.specs.Plain.{lines_below}
use Rattle.pal8_source.proofs.plain.plain_source.Given as goal

abbrev pub invariant-loop-number : goal.invariant-loop-number
invariant-loop-number l = l.text.items ≡ lines_below (word_in l.words) l.number
