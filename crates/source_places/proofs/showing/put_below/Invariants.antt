use Rattle.std.proofs.Common.{◌≡◌, ◌++◌, length}
use Rattle.source_places.specs.Showing.{blanks_below}
use Rattle.source_places.proofs.showing.put_below.Given as goal

abbrev pub invariant-loop-rest : goal.invariant-loop-rest
invariant-loop-rest l = l.text.items ++ blanks_below l.rest ≡ l.initial.text.items ++ blanks_below l.bytes

abbrev pub decreases-loop-rest : goal.decreases-loop-rest
decreases-loop-rest l = length l.rest
