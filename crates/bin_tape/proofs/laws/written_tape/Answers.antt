use Rattle.bin_tape.proofs.WritingLemmas.{written}
use Rattle.bin_tape.proofs.laws.written_tape.Goals as goal

pub returns : goal.returns
returns c = written
