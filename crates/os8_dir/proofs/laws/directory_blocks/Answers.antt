use Rattle.os8_dir.proofs.SteadyLemmas.{same-directory}
use Rattle.os8_dir.proofs.laws.directory_blocks.Goals as goal

pub returns : goal.returns
returns c = same-directory
