use Rattle.std.proofs.Common.{◌≡◌, ◌++◌, length}
use Rattle.source_listing.specs.Rows.{below_text}
use Rattle.source_listing.proofs.rows.put_below.Given as goal

abbrev pub invariant-loop-rest : goal.invariant-loop-rest
invariant-loop-rest l = l.text.items ++ below_text l.rest ≡ l.initial.text.items ++ below_text l.pairs

abbrev pub decreases-loop-rest : goal.decreases-loop-rest
decreases-loop-rest l = length l.rest
