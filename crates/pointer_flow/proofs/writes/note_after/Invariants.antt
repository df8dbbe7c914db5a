use Rattle.std.proofs.Common.{◌+◌}
use Rattle.flow8.specs.Exits.{cell_after}
use Rattle.pointer_flow.specs.Steps.{NotesCells}
use Rattle.pointer_flow.proofs.WriteLemmas.{IsFirstOf}
use Rattle.pointer_flow.proofs.writes.note_after.Given as goal

abbrev pub invariant-loop-more : goal.invariant-loop-more
invariant-loop-more l = NotesCells l.initial.writers l.writers l.cell (IsFirstOf (λ k. cell_after (l.first + k) l.cell) l.more)
