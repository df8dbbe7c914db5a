use Rattle.pal8_asm.proofs.LawLemmas.{no_pool_no_change}
use Rattle.pal8_asm.proofs.laws.no_pool_no_change.Goals as goal

pub returns : goal.returns
returns c = no_pool_no_change
