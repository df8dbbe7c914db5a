use Rattle.pal8_asm.proofs.LawLemmas.{places_stay}
use Rattle.pal8_asm.proofs.laws.places_stay.Goals as goal

pub returns : goal.returns
returns c = places_stay
