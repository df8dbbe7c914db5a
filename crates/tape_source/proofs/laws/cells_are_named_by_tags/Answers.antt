use Rattle.std.proofs.Common.{sym, subst}
use Rattle.tape_source.specs.Named.{NamesTags}
use Rattle.tape_source.proofs.DefinedLemmas.{tape_names}
use Rattle.tape_source.proofs.laws.cells_are_named_by_tags.Goals as goal

pub returns : goal.returns
returns c = λ look frames text source.
    subst (λ t. NamesTags look t source.items) (sym source.lines) (tape_names look source.items source.notes source.naming source.is_tape.is_prefix.3)
