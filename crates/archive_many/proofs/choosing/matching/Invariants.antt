use Rattle.std.proofs.Common.{◌≡◌, ◌++◌, length}
use Rattle.archive_many.specs.Choosing.{files_like}
use Rattle.archive_many.proofs.choosing.matching.Given as goal

abbrev pub invariant-loop-rest : goal.invariant-loop-rest
invariant-loop-rest l = l.chosen.items ++ files_like l.fn.word l.rest ≡ files_like l.fn.word l.fn.files

abbrev pub decreases-loop-rest : goal.decreases-loop-rest
decreases-loop-rest l = length l.rest
