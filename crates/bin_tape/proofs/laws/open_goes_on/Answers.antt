use Rattle.bin_tape.proofs.OpenLemmas.{goes_on}
use Rattle.bin_tape.proofs.laws.open_goes_on.Goals as goal

pub returns : goal.returns
returns c = goes_on
