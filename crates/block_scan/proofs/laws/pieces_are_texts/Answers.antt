use Rattle.block_scan.proofs.PieceLemmas.{all-are-pieces}
use Rattle.block_scan.proofs.laws.pieces_are_texts.Goals as goal

pub returns : goal.returns
returns c = all-are-pieces
