use Rattle.pal8_listing.proofs.LawLemmas.{words_listed}
use Rattle.pal8_listing.proofs.laws.words_are_listed.Goals as goal

pub returns : goal.returns
returns c = words_listed
