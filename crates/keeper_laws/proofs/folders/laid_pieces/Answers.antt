use Rattle.keeper_laws.proofs.LaidLemmas.{written-out}
use Rattle.keeper_laws.proofs.folders.laid_pieces.Goals as goal

pub returns : goal.returns
returns c folder form old new p = written-out folder form old tt new p
