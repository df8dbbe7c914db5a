use Rattle.pal8_tape.proofs.PauseLemmas.{itself}
use Rattle.pal8_tape.proofs.join_laws.one_is_itself.Goals as goal

pub returns : goal.returns
returns c = itself
