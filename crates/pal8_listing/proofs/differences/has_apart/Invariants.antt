use Rattle.std.proofs.Common.{◌≡◌, length}
use Rattle.pal8_listing.specs.Notes.{has_apart}
use Rattle.pal8_listing.proofs.differences.has_apart.Given as goal

abbrev pub invariant-loop-rest : goal.invariant-loop-rest
invariant-loop-rest l = has_apart l.rest ≡ has_apart l.tokens

abbrev pub decreases-loop-rest : goal.decreases-loop-rest
decreases-loop-rest l = length l.rest
