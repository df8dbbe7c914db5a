use Rattle.std.proofs.Common.{◌≡◌}
use Rattle.source_notes.specs.Referrers.{cells_below}
use Rattle.pointer_notes.specs.Heads.{is_assumed}
use Rattle.pointer_notes.specs.Steps.{view_in}
use Rattle.pointer_notes.proofs.heads.assumed_cells.Given as goal

abbrev pub invariant-loop-number : goal.invariant-loop-number
invariant-loop-number l = l.cells.items ≡ cells_below (is_assumed (view_in l.views)) l.number
