use Rattle.std.proofs.Common.{◌≡◌, ◌++◌, length, map}
use Rattle.archive_files.specs.Asking.{target_of}
use Rattle.archive_many.specs.Wishing.{by_place, found_files}
use Rattle.change_commands.proofs.choosing.files_of.Given as goal

abbrev pub invariant-loop-rest : goal.invariant-loop-rest
invariant-loop-rest l = map target_of l.files.items ++ map by_place (found_files l.rest) ≡ map by_place (found_files l.wishes)

abbrev pub decreases-loop-rest : goal.decreases-loop-rest
decreases-loop-rest l = length l.rest
