use Rattle.os8_dir.proofs.MapLemmas.{files_of-unsound, above_of-unsound}
use Rattle.os8_dir.proofs.laws.unsound_volumes.Goals as goal

pub returns : goal.returns
returns c = record { files = files_of-unsound; above = above_of-unsound }
