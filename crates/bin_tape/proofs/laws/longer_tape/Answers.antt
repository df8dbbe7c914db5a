use Rattle.bin_tape.proofs.ReaderLemmas.{longer}
use Rattle.bin_tape.proofs.laws.longer_tape.Goals as goal

pub returns : goal.returns
returns c = longer
