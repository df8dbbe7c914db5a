use Rattle.std.proofs.Common.{◌≡◌, length}
use Rattle.pal8_grammar.specs.Bodies.{has_free_tags}
use Rattle.pal8_grammar.proofs.bodies.has_free_tags.Given as goal

-- the tags that were looked at are free
abbrev pub invariant-loop-rest : goal.invariant-loop-rest
invariant-loop-rest l = has_free_tags l.rest ≡ has_free_tags l.fn.tokens

abbrev pub decreases-loop-rest : goal.decreases-loop-rest
decreases-loop-rest l = length l.rest
