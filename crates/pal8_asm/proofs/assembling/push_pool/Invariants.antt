use Rattle.std.proofs.Common.{List, length}
use Rattle.pal8_pools.specs.Asks.{Ask}
use Rattle.pal8_pools.specs.Cells.{pairs_left}
use Rattle.pal8_pools.specs.Pooled.{Holds}
use Rattle.pal8_asm.proofs.MakingLemmas.{IsAdding}
use Rattle.pal8_asm.proofs.assembling.push_pool.Given as goal

-- the cells that are left come after those that were put
abbrev pub invariant-loop-pair : goal.invariant-loop-pair
invariant-loop-pair l = (asks punched : List Ask) → Holds l.fn.pools asks punched → IsAdding asks punched l.fn.pairs.items l.pairs.items (pairs_left l.cells)

abbrev pub decreases-loop-pair : goal.decreases-loop-pair
decreases-loop-pair l = length (pairs_left l.cells)
