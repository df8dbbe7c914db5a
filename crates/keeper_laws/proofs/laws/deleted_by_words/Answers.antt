use Rattle.keeper_laws.proofs.GoneLemmas.{words-gone}
use Rattle.keeper_laws.proofs.laws.deleted_by_words.Goals as goal

pub returns : goal.returns
returns c form ok old new deleted none pattern = words-gone c.chosen_are_gone.ensures form deleted.image.bytes.items deleted.made none pattern deleted.gave
