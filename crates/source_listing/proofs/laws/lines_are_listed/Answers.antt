use Rattle.source_listing.proofs.RowLemmas.{lines_listed}
use Rattle.source_listing.proofs.laws.lines_are_listed.Goals as goal

pub returns : goal.returns
returns c = lines_listed
