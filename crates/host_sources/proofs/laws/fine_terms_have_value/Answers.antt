use Rattle.host_sources.proofs.NameLemmas.{value_some}
use Rattle.host_sources.proofs.laws.fine_terms_have_value.Goals as goal

pub returns : goal.returns
returns c = λ known place parts fine. value_some known place 0 parts fine
