use Rattle.tape_source.proofs.OwnLemmas.{own_names}
use Rattle.tape_source.proofs.laws.names_of_a_text_are_names_of_their_own.Goals as goal

pub returns : goal.returns
returns c = λ words text table names.
    own_names words table (c.names_are_their_own.ensures.given words text table names) (c.names_are_their_own.ensures.different words text table names)
    c.names_are_spelled_one_way.ensures
