use Rattle.pal8_tape.proofs.PartLemmas.{part_read}
use Rattle.pal8_tape.proofs.join_laws.part_is_read.Goals as goal

pub returns : goal.returns
returns c = part_read c.lines_end.ensures
