use Rattle.pal8_asm.proofs.LawLemmas.{apart}
use Rattle.pal8_asm.proofs.laws.apart.Goals as goal

pub returns : goal.returns
returns c = apart c.no_clash_is_apart.ensures
