use Rattle.std.proofs.Common.{◌≡◌, ◌++◌, length}
use Rattle.archive_many.specs.Cutting as spec
use Rattle.archive_many.proofs.cutting.put_cuts.Given as goal

abbrev pub invariant-loop-rest : goal.invariant-loop-rest
invariant-loop-rest l = l.cuts.items ++ spec.cuts_of l.volume l.count l.rest ≡ l.fn.cuts.items ++ spec.cuts_of l.volume l.count l.files

abbrev pub decreases-loop-rest : goal.decreases-loop-rest
decreases-loop-rest l = length l.rest
