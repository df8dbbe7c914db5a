use Rattle.std.proofs.Common.{◌≡◌, ◌++◌, length}
use Rattle.pal8_listing.specs.Uses.{further_text}
use Rattle.pal8_listing.proofs.crossing.put_further.Given as goal

abbrev pub invariant-loop-rest : goal.invariant-loop-rest
invariant-loop-rest l = l.text.items ++ further_text l.starts l.current l.rest ≡ l.initial.text.items ++ further_text l.starts l.fn.first l.others

abbrev pub decreases-loop-rest : goal.decreases-loop-rest
decreases-loop-rest l = length l.rest
