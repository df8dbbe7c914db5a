use Rattle.std.proofs.Common.{◌≡◌}
use Rattle.profile8.specs.CellSteps.{cells_below}
use Rattle.profile8.proofs.cells.rising_cells.Given as goal

abbrev pub invariant-loop-number : goal.invariant-loop-number
invariant-loop-number l = l.cells.items ≡ cells_below l.counts l.number
