use Rattle.std.proofs.Common.{◌≡◌, length}
use Rattle.pal8_asm.specs.Sources.{PassResult}
use Rattle.pal8_tape.specs.Joins.{is_operation}
use Rattle.pal8_tape.specs.Passing.{Follows}
use Rattle.pal8_listing.specs.Closer.{first_levels, has_closer}
use Rattle.pal8_listing.proofs.differences.has_closer.Given as goal

abbrev pub invariant-loop-rest : goal.invariant-loop-rest
invariant-loop-rest l =
    (left : PassResult) → Follows l.pass left → has_closer (is_operation left) l.levels l.rest ≡ has_closer (is_operation left) first_levels l.tokens

abbrev pub decreases-loop-rest : goal.decreases-loop-rest
decreases-loop-rest l = length l.rest
