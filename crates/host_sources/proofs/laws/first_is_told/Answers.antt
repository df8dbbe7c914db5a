use Rattle.host_sources.proofs.FirstLemmas.{first_is_told as told}
use Rattle.host_sources.proofs.laws.first_is_told.Goals as goal

pub returns : goal.returns
returns c = told
