use Rattle.block_scan.proofs.PassageLemmas.{ended-text}
use Rattle.block_scan.proofs.laws.ended_texts.Goals as goal

pub returns : goal.returns
returns c = λ frames. ended-text frames
