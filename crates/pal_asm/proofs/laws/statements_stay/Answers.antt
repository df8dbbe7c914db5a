use Rattle.pal_asm.proofs.TextLemmas.{statements_stay}
use Rattle.pal_asm.proofs.laws.statements_stay.Goals as goal

pub returns : goal.returns
returns c = statements_stay
