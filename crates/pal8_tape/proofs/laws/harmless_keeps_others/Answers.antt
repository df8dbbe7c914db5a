use Rattle.pal8_tape.proofs.MendLemmas.{others_kept}
use Rattle.pal8_tape.proofs.laws.harmless_keeps_others.Goals as goal

pub returns : goal.returns
returns c = others_kept
