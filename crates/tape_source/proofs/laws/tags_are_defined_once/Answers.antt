use Rattle.std.proofs.Common.{sym, subst}
use Rattle.tape_source.specs.Sources.{words_of_tape}
use Rattle.tape_source.specs.Defined.{DefinesTags}
use Rattle.tape_source.proofs.DefinedLemmas.{tape_tags}
use Rattle.tape_source.proofs.laws.tags_are_defined_once.Goals as goal

pub returns : goal.returns
returns c = λ look frames text source.
    subst (λ t. DefinesTags look t (words_of_tape source.items)) (sym source.lines) (tape_tags look source.items source.notes source.naming source.is_tape.is_prefix.3)
