use Rattle.pal8_asm.proofs.LawLemmas.{value_is_found}
use Rattle.pal8_asm.proofs.laws.value_is_found.Goals as goal

pub returns : goal.returns
returns c = value_is_found
