use Rattle.std.proofs.Common.{◌≡◌, length}
use Rattle.pal8_listing.specs.Notes.{has_tab_byte}
use Rattle.pal8_listing.proofs.differences.has_tab_byte.Given as goal

abbrev pub invariant-loop-rest : goal.invariant-loop-rest
invariant-loop-rest l = has_tab_byte l.rest ≡ has_tab_byte l.string

abbrev pub decreases-loop-rest : goal.decreases-loop-rest
decreases-loop-rest l = length l.rest
