use Rattle.std.proofs.Common.{◌≡◌, ◌++◌, length}
use Rattle.archive_many.specs.Cutting as spec
use Rattle.archive_many.proofs.opened.are_zeros.Given as goal

abbrev pub invariant-loop-rest : goal.invariant-loop-rest
invariant-loop-rest l = spec.are_zeros l.rest ≡ spec.are_zeros l.words

abbrev pub decreases-loop-rest : goal.decreases-loop-rest
decreases-loop-rest l = length l.rest
