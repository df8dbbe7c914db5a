use Rattle.std.proofs.Common.{◌≡◌, length}
use Rattle.image_files.specs.Leftovers.{has_mark}
use Rattle.image_files.proofs.leftovers.has_mark.Given as goal

-- what was looked at has no mark
abbrev pub invariant-loop-rest : goal.invariant-loop-rest
invariant-loop-rest l = has_mark l.rest ≡ has_mark l.fn.part

abbrev pub decreases-loop-rest : goal.decreases-loop-rest
decreases-loop-rest l = length l.rest
