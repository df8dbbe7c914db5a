use Rattle.std.proofs.Common.{◌≡◌, length}
use Rattle.archive_many.specs.Copying.{first_there}
use Rattle.archive_many.proofs.copying.first_there.Given as goal

-- none so far is there
abbrev pub invariant-loop-rest : goal.invariant-loop-rest
invariant-loop-rest l = first_there l.older l.files ≡ first_there l.older l.rest

abbrev pub decreases-loop-rest : goal.decreases-loop-rest
decreases-loop-rest l = length l.rest
