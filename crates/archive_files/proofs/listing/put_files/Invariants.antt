use Rattle.std.proofs.Common.{◌≡◌, ◌++◌, length}
use Rattle.archive_files.specs.Listing.{listed_lines}
use Rattle.archive_files.proofs.listing.put_files.Given as goal

abbrev pub invariant-loop-rest : goal.invariant-loop-rest
invariant-loop-rest l = l.out.items ++ listed_lines l.rest ≡ l.fn.out.items ++ listed_lines l.lengths

abbrev pub decreases-loop-rest : goal.decreases-loop-rest
decreases-loop-rest l = length l.rest
