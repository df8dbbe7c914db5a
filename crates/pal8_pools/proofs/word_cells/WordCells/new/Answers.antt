use Rattle.pal8_pools.proofs.ClashLemmas.{no_mark}
use Rattle.pal8_pools.proofs.word_cells.WordCells.new.Goals as goal

pub returns : goal.returns
returns c = no_mark c.in_ok-marks.marks.items 32768 (c.in_ok-marks.ensures {u = tt})
