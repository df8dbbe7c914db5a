use Rattle.std.proofs.Common.{◌≡◌, ◌+◌, ◌≤◌, ◌++◌, length}
use Rattle.source_listing.specs.SpotSteps as spec
use Rattle.source_listing.proofs.spots.byte_spots.Given as goal

abbrev pub invariant-loop-rest : goal.invariant-loop-rest
invariant-loop-rest l = record {
  same : l.spots.items ++ spec.byte_spots l.number l.line l.rest ≡ spec.byte_spots l.number 1 l.source;
  bound : l.line + length l.rest ≤ length l.source + 1;
}

abbrev pub decreases-loop-rest : goal.decreases-loop-rest
decreases-loop-rest l = length l.rest
