use Rattle.cpu8.specs.State.{place}
use Rattle.pointer_flow.specs.Steps.{NotesCells}
use Rattle.pointer_flow.proofs.WriteLemmas.{IsFirstOf}
use Rattle.pointer_flow.proofs.writes.note_fields.Given as goal

abbrev pub invariant-loop-field : goal.invariant-loop-field
invariant-loop-field l = NotesCells l.initial.writers l.writers l.cell (IsFirstOf (λ k. place k l.address) l.field)
