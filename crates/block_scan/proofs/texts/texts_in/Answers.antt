use Rattle.block_scan.proofs.PieceLemmas.{ok-inside}
use Rattle.block_scan.proofs.texts.texts_in.Goals as goal

pub returns-clause-inside : goal.returns-clause-inside
returns-clause-inside c = ok-inside c.pieces_are_texts.ensures _ c.args.frames.now c.texts_of.result c.texts_of.ensures
