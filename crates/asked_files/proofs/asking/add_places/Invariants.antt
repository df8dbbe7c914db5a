use Rattle.std.proofs.Common.{◌≡◌, ◌++◌, length, map}
use Rattle.archive_files.specs.Asking.{AtBlock, target_of}
use Rattle.asked_files.proofs.asking.add_places.Given as goal

abbrev pub invariant-loop-rest : goal.invariant-loop-rest
invariant-loop-rest l = map target_of l.files.items ++ map AtBlock l.rest ≡ map target_of l.fn.files.items ++ map AtBlock l.places

abbrev pub decreases-loop-rest : goal.decreases-loop-rest
decreases-loop-rest l = length l.rest
