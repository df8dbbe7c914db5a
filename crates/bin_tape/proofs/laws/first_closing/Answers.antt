use Rattle.bin_tape.proofs.Scan.{closed_for_good}
use Rattle.bin_tape.proofs.laws.first_closing.Goals as goal

pub returns : goal.returns
returns c = closed_for_good
