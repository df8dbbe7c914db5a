use Rattle.os8_files.proofs.WholeLemmas.{held-block}
use Rattle.os8_files.proofs.laws.held_blocks.Goals as goal

pub returns : goal.returns
returns c = held-block
