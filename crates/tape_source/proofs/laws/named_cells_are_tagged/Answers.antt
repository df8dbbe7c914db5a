use Rattle.std.proofs.Common.{refl}
use Rattle.tape_source.proofs.NamedLemmas.{tags_what_is_named}
use Rattle.tape_source.proofs.laws.named_cells_are_tagged.Goals as goal

pub returns : goal.returns
returns c = λ look frames text source. tags_what_is_named look source.items 32768 refl source.is_tape.is_prefix.3
