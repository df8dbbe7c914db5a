use Rattle.std.proofs.Common.{◌≡◌, length}
use Rattle.archive_many.specs.Choosing as spec
use Rattle.archive_many.proofs.choosing.file_named.Given as goal

abbrev pub invariant-loop-rest : goal.invariant-loop-rest
invariant-loop-rest l = spec.file_named l.name l.rest ≡ spec.file_named l.name l.files

abbrev pub decreases-loop-rest : goal.decreases-loop-rest
decreases-loop-rest l = length l.rest
