use Rattle.tape_source.proofs.TagLemmas.{given_naming}
use Rattle.tape_source.proofs.laws.given_names_are_names_of_their_own.Goals as goal

pub returns : goal.returns
returns c = given_naming
