use Rattle.std.proofs.Common.{◌≡◌, ◌+◌, ◌≤◌, ◌++◌, length}
use Rattle.source_listing.specs.SpotSteps as spec
use Rattle.source_listing.proofs.spots.all_spots.Given as goal

abbrev pub invariant-loop-rest : goal.invariant-loop-rest
invariant-loop-rest l = record {
  same : l.spots.items ++ spec.all_spots l.number l.rest l.counts ≡ spec.all_spots 1 l.sources l.initial.counts;
  bound : l.number + length l.rest ≤ length l.sources + 1;
}

abbrev pub decreases-loop-rest : goal.decreases-loop-rest
decreases-loop-rest l = length l.rest
