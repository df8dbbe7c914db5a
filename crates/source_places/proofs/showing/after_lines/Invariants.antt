use Rattle.std.proofs.Common.{◌≡◌, length}
use Rattle.source_places.specs.Showing.{after_lines}
use Rattle.source_places.proofs.showing.after_lines.Given as goal

abbrev pub invariant-loop-rest : goal.invariant-loop-rest
invariant-loop-rest l = after_lines l.count l.bytes ≡ after_lines l.left l.rest

abbrev pub decreases-loop-rest : goal.decreases-loop-rest
decreases-loop-rest l = length l.rest
