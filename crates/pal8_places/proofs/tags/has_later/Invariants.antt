use Rattle.std.proofs.Common.{◌≡◌, length}
use Rattle.pal8_grammar.specs.SourceNames.{own_value}
use Rattle.pal8_places.specs.Places.{has_later}
use Rattle.pal8_places.proofs.tags.has_later.Given as goal

-- no step that was seen is of a later name
abbrev pub invariant-loop-rest : goal.invariant-loop-rest
invariant-loop-rest l = has_later (own_value l.names) l.rest ≡ has_later (own_value l.fn.names) l.fn.steps

abbrev pub decreases-loop-rest : goal.decreases-loop-rest
decreases-loop-rest l = length l.rest
