use Rattle.pal_asm.proofs.TextLemmas.{first_statements_tell}
use Rattle.pal_asm.proofs.laws.first_statements_tell.Goals as goal

pub returns : goal.returns
returns c = first_statements_tell
