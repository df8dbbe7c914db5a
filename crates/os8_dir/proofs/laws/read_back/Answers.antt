use Rattle.os8_dir.proofs.ReadBackLemmas.{directory-back}
use Rattle.os8_dir.proofs.laws.read_back.Goals as goal

pub returns : goal.returns
returns c = directory-back
