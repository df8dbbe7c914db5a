use Rattle.std.proofs.Common.{◌≡◌, ◌++◌, length}
use Rattle.pal8_listing.specs.Rows.{below_text}
use Rattle.pal8_listing.proofs.lines.put_below.Given as goal

abbrev pub invariant-loop-rest : goal.invariant-loop-rest
invariant-loop-rest l = l.text.items ++ below_text l.rest ≡ l.initial.text.items ++ below_text l.words

abbrev pub decreases-loop-rest : goal.decreases-loop-rest
decreases-loop-rest l = length l.rest
