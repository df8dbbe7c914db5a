use Rattle.pal8_tape.proofs.PauseLemmas.{rest_not_read}
use Rattle.pal8_tape.proofs.join_laws.rest_is_not_read.Goals as goal

pub returns : goal.returns
returns c = rest_not_read
