use Rattle.pointer_flow.specs.Programs.{Program}
use Rattle.pointer_flow.specs.Steps.{NotesCells}
use Rattle.pointer_flow.specs.Tables.{AreFacts}
use Rattle.pointer_flow.proofs.WriteLemmas.{IsWriterBelow}
use Rattle.pointer_flow.proofs.writes.note_cell.Given as goal

abbrev pub invariant-loop-number : goal.invariant-loop-number
invariant-loop-number l = (p : Program) → AreFacts p l.rules.facts.now.words.now l.rules.facts.now.data_flags.now l.rules.facts.now.increments.items l.rules.facts.now.arguments.items l.rules.facts.now.handlers.items
    → NotesCells l.initial.writers l.writers l.cell (IsWriterBelow p l.rules.pointers.now l.reached.bits.items l.cell l.word l.number)
