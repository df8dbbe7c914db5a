use Rattle.std.proofs.Common.{◌≡◌, ◌++◌, length, map}
use Rattle.archive_many.specs.declared.wishes.Wish.TheVariants as wish
use Rattle.archive_many.proofs.wishes.add_files.Given as goal

abbrev pub invariant-loop-rest : goal.invariant-loop-rest
invariant-loop-rest l = l.wishes.items ++ map wish.File l.rest ≡ l.fn.wishes.items ++ map wish.File l.fn.files

abbrev pub decreases-loop-rest : goal.decreases-loop-rest
decreases-loop-rest l = length l.rest
