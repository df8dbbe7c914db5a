use Rattle.std.proofs.Common.{◌≡◌, Ok, length}
use Rattle.pal8_places.specs.Places.{with_tags}
use Rattle.pal8_places.specs.Passing.{standing}
use Rattle.pal8_places.proofs.tags.define_tags.Given as goal

-- the tags that are left are to be defined after those that were
abbrev pub invariant-loop-rest : goal.invariant-loop-rest
invariant-loop-rest l = with_tags l.rest (Ok (standing l.names l.position)) ≡ with_tags l.fn.tokens (Ok (standing l.fn.names l.fn.position))

abbrev pub decreases-loop-rest : goal.decreases-loop-rest
decreases-loop-rest l = length l.rest
