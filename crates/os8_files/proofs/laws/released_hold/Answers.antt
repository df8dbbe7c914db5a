use Rattle.os8_files.proofs.KeptLemmas.{released}
use Rattle.os8_files.proofs.laws.released_hold.Goals as goal

pub returns : goal.returns
returns c = released
