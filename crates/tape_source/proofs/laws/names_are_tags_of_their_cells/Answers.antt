use Rattle.std.proofs.Common.{sym, subst}
use Rattle.bin_tape.specs.Items.{tape_map}
use Rattle.tape_source.specs.Defined.{DefinesNames}
use Rattle.tape_source.specs.Looks.{with_names}
use Rattle.tape_source.proofs.DefinedLemmas.{tape_tags}
use Rattle.tape_source.proofs.OwnLemmas.{names_defined}
use Rattle.tape_source.proofs.laws.names_are_tags_of_their_cells.Goals as goal

pub returns : goal.returns
returns c = λ look table frames names text source named.
    subst (λ t. DefinesNames t table) (sym source.lines)
    (names_defined table look source.items (c.names_are_their_own.ensures.given (tape_map source.items) names table named)
    (tape_tags (with_names table look) source.items source.notes source.naming source.is_tape.is_prefix.3))
