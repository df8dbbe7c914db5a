use Rattle.std.proofs.Common.{◌++◌}
use Rattle.source_notes.specs.Notes.{some_cells}
use Rattle.pointer_notes.proofs.ListLemmas.{LeavesCells}
use Rattle.pointer_notes.proofs.comments.put_cells.Given as goal

abbrev pub invariant-loop-cell : goal.invariant-loop-cell
invariant-loop-cell l = LeavesCells (l.fn.text.items ++ some_cells 8 l.cells) l.text.items l.cells l.cell-index l.left
