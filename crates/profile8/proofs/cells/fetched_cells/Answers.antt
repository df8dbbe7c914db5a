use Rattle.std.proofs.Common.{arith}
use Rattle.profile8.proofs.CellLemmas.{fetched}
use Rattle.profile8.proofs.cells.fetched_cells.Goals as goal

pub returns : goal.returns
returns c =
    fetched c.args.counts.now c.in_ok-cells.cells.items c.sort.new.cells.items c.requires (λ cell. omega (arith, c.type_inv.counts cell))
    c.in_ok-cells.ensures c.in_ok-sort.ensures
