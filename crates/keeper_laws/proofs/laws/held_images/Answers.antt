use Rattle.keeper_laws.proofs.HeldLemmas.{held-since}
use Rattle.keeper_laws.proofs.laws.held_images.Goals as goal

pub returns : goal.returns
returns c = held-since c.lost_updates.ensures
