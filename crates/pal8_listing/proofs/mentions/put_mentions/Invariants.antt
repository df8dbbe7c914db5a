use Rattle.std.proofs.Common.{◌≡◌, ◌++◌, length}
use Rattle.pal8_listing.specs.Uses.{names_in}
use Rattle.pal8_listing.proofs.mentions.put_mentions.Given as goal

abbrev pub invariant-loop-rest : goal.invariant-loop-rest
invariant-loop-rest l = l.found.items ++ names_in l.line l.rest ≡ l.initial.found.items ++ names_in l.line l.tokens

abbrev pub decreases-loop-rest : goal.decreases-loop-rest
decreases-loop-rest l = length l.rest
