use Rattle.std.proofs.Common.{◌≡◌, ◌++◌, length}
use Rattle.pal8_listing.specs.Uses.{later_starts}
use Rattle.pal8_listing.proofs.crossing.later_starts.Given as goal

abbrev pub invariant-loop-rest : goal.invariant-loop-rest
invariant-loop-rest l = l.starts.items ++ later_starts l.number l.rest l.join ≡ later_starts 1 l.fn.counts l.fn.join

abbrev pub decreases-loop-rest : goal.decreases-loop-rest
decreases-loop-rest l = length l.rest
