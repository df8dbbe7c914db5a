use Rattle.rim_tape.proofs.Scan.{reading_is_one}
use Rattle.rim_tape.proofs.laws.one_reading.Goals as goal

pub returns : goal.returns
returns c = reading_is_one
