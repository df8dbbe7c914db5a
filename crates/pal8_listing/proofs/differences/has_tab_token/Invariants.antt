use Rattle.std.proofs.Common.{◌≡◌, length}
use Rattle.pal8_listing.specs.Notes.{has_tab}
use Rattle.pal8_listing.proofs.differences.has_tab_token.Given as goal

abbrev pub invariant-loop-rest : goal.invariant-loop-rest
invariant-loop-rest l = has_tab l.rest ≡ has_tab l.tokens

abbrev pub decreases-loop-rest : goal.decreases-loop-rest
decreases-loop-rest l = length l.rest
