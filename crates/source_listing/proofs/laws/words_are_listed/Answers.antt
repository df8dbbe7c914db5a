use Rattle.source_listing.proofs.LawLemmas.{words_listed}
use Rattle.source_listing.proofs.laws.words_are_listed.Goals as goal

pub returns : goal.returns
returns c = words_listed c.fine_terms_have_value.ensures
