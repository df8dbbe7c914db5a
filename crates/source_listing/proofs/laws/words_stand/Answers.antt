use Rattle.source_listing.proofs.StandLemmas.{words_standing}
use Rattle.source_listing.proofs.laws.words_stand.Goals as goal

pub returns : goal.returns
returns c = words_standing
