use Rattle.std.proofs.Common.{◌≡◌, ◌++◌, length}
use Rattle.pal8_tape.specs.Mending.{free_tags}
use Rattle.pal8_tape.proofs.mending.put_free_tags.Given as goal

-- the tags that are left come after those that were put
abbrev pub invariant-loop-rest : goal.invariant-loop-rest
invariant-loop-rest l = l.text.items ++ free_tags l.rest ≡ l.fn.text.items ++ free_tags l.tokens

abbrev pub decreases-loop-rest : goal.decreases-loop-rest
decreases-loop-rest l = length l.rest
