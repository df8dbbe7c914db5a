use Rattle.std.proofs.Common.{◌≡◌, length}
use Rattle.archive_many.specs.Choosing.{beginning_at}
use Rattle.archive_many.proofs.choosing.at_place.Given as goal

abbrev pub invariant-loop-rest : goal.invariant-loop-rest
invariant-loop-rest l = beginning_at l.fn.place l.rest ≡ beginning_at l.fn.place l.fn.files

abbrev pub decreases-loop-rest : goal.decreases-loop-rest
decreases-loop-rest l = length l.rest
