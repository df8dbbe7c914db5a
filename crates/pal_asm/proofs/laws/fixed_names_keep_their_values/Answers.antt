use Rattle.pal_asm.proofs.TextLemmas.{fixed_names_keep_their_values}
use Rattle.pal_asm.proofs.laws.fixed_names_keep_their_values.Goals as goal

pub returns : goal.returns
returns c = fixed_names_keep_their_values
