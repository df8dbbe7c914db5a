use Rattle.std.proofs.Common.{◌≡◌, length}
use Rattle.pal8_listing.specs.Uses.{spot_from}
use Rattle.pal8_listing.proofs.crossing.spot_of.Given as goal

abbrev pub invariant-loop-rest : goal.invariant-loop-rest
invariant-loop-rest l = spot_from l.source l.first l.rest l.line ≡ spot_from 1 1 l.starts l.line

abbrev pub decreases-loop-rest : goal.decreases-loop-rest
decreases-loop-rest l = length l.rest
