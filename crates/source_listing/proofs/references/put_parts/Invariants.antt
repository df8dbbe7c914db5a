use Rattle.std.proofs.Common.{◌≡◌, ◌++◌, length}
use Rattle.source_listing.specs.References.{part_names, mentions_at}
use Rattle.source_listing.proofs.references.put_parts.Given as goal

abbrev pub invariant-loop-rest : goal.invariant-loop-rest
invariant-loop-rest l = l.found.items ++ mentions_at l.spot (part_names l.rest) ≡ l.initial.found.items ++ mentions_at l.spot (part_names l.fn.parts)

abbrev pub decreases-loop-rest : goal.decreases-loop-rest
decreases-loop-rest l = length l.rest
