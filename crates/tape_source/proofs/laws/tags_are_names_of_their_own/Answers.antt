use Rattle.tape_source.proofs.TagLemmas.{tag_naming}
use Rattle.tape_source.proofs.laws.tags_are_names_of_their_own.Goals as goal

pub returns : goal.returns
returns c = tag_naming
