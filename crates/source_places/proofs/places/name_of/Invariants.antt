use Rattle.std.proofs.Common.{◌≡◌, length}
use Rattle.source_places.specs.Places.{bytes_of}
use Rattle.source_places.proofs.places.name_of.Given as goal

abbrev pub invariant-loop-rest : goal.invariant-loop-rest
invariant-loop-rest l = bytes_of l.names l.number ≡ bytes_of l.rest l.left

abbrev pub decreases-loop-rest : goal.decreases-loop-rest
decreases-loop-rest l = length l.rest
