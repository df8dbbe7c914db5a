use Rattle.std.proofs.Common.{◌∷◌, ◌∙◌, get_or}
use Rattle.pal8_listing.proofs.ItemLemmas.{next-byte}
use Rattle.pal8_listing.proofs.notes.notes_of.Goals as goal

pub loop-rest-preserved : goal.loop-rest-preserved
loop-rest-preserved c = (
  get_or c.loop-rest.rest.now 0 0 ∷ c.loop-rest.invariant.0,
  (
    next-byte c.loop-rest.invariant.0 c.loop-rest.rest.now c.in-len1-up.len_at_least ∙ c.loop-rest.invariant.1.0,
    c.in_ok-note_byte.ensures _ _ c.loop-rest.invariant.1.1,
  ),
)
