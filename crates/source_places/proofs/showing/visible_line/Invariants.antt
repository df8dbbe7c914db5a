use Rattle.std.proofs.Common.{◌≡◌, ◌++◌, length}
use Rattle.source_places.specs.Showing as spec
use Rattle.source_places.proofs.showing.visible_line.Given as goal

abbrev pub invariant-loop-rest : goal.invariant-loop-rest
invariant-loop-rest l = l.text.items ++ spec.visible_bytes (spec.up_to_lf l.rest) ≡ spec.visible_bytes (spec.up_to_lf l.bytes)

abbrev pub decreases-loop-rest : goal.decreases-loop-rest
decreases-loop-rest l = length l.rest
