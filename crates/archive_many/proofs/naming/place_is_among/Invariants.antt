use Rattle.std.proofs.Common.{◌≡◌, ◌++◌, length}
use Rattle.archive_many.specs.Naming as spec
use Rattle.archive_many.proofs.naming.place_is_among.Given as goal

abbrev pub invariant-loop-rest : goal.invariant-loop-rest
invariant-loop-rest l = spec.place_is_among l.place l.rest ≡ spec.place_is_among l.place l.places

abbrev pub decreases-loop-rest : goal.decreases-loop-rest
decreases-loop-rest l = length l.rest
