use Rattle.std.proofs.Common.{◌≡◌, length}
use Rattle.archive_many.specs.Emptying as spec
use Rattle.archive_many.proofs.emptying.is_among.Given as goal

-- none of the files so far has the name
abbrev pub invariant-loop-rest : goal.invariant-loop-rest
invariant-loop-rest l = spec.is_among l.name l.rest ≡ spec.is_among l.name l.files

abbrev pub decreases-loop-rest : goal.decreases-loop-rest
decreases-loop-rest l = length l.rest
