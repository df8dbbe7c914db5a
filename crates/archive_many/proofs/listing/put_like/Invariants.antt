use Rattle.std.proofs.Common.{◌≡◌, ◌++◌, length, map}
use Rattle.archive_many.specs.Listing.{like_lines}
use Rattle.archive_many.proofs.listing.put_like.Given as goal

abbrev pub invariant-loop-rest : goal.invariant-loop-rest
invariant-loop-rest l = l.out.items ++ like_lines (map (λ word. word.bytes.items) l.words) l.rest
    ≡ l.fn.out.items ++ like_lines (map (λ word. word.bytes.items) l.words) l.lengths

abbrev pub decreases-loop-rest : goal.decreases-loop-rest
decreases-loop-rest l = length l.rest
