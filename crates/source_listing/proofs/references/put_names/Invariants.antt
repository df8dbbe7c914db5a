use Rattle.std.proofs.Common.{◌≡◌, ◌++◌, length}
use Rattle.source_listing.specs.References.{mentions_at}
use Rattle.source_listing.proofs.references.put_names.Given as goal

abbrev pub invariant-loop-rest : goal.invariant-loop-rest
invariant-loop-rest l = l.found.items ++ mentions_at l.spot l.rest ≡ l.initial.found.items ++ mentions_at l.spot l.fn.names

abbrev pub decreases-loop-rest : goal.decreases-loop-rest
decreases-loop-rest l = length l.rest
