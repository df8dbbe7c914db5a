use Rattle.std.proofs.Common.{◌≡◌, ◌++◌, length}
use Rattle.archive_many.specs.Wishing.{found_files}
use Rattle.asked_files.proofs.wishing.files_of.Given as goal

abbrev pub invariant-loop-rest : goal.invariant-loop-rest
invariant-loop-rest l = l.files.items ++ found_files l.rest ≡ found_files l.wishes

abbrev pub decreases-loop-rest : goal.decreases-loop-rest
decreases-loop-rest l = length l.rest
