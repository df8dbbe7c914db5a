use Rattle.source_names.proofs.SpellingLemmas.{spelled_alike}
use Rattle.source_names.proofs.laws.names_are_spelled_one_way.Goals as goal

pub returns : goal.returns
returns c = spelled_alike
