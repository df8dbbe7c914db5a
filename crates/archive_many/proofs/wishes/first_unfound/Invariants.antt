use Rattle.std.proofs.Common.{◌≡◌, length}
use Rattle.archive_many.specs.Wishing as spec
use Rattle.archive_many.proofs.wishes.first_unfound.Given as goal

-- each so far asks for a file
abbrev pub invariant-loop-rest : goal.invariant-loop-rest
invariant-loop-rest l = spec.first_unfound l.rest ≡ spec.first_unfound l.wishes

abbrev pub decreases-loop-rest : goal.decreases-loop-rest
decreases-loop-rest l = length l.rest
