use Rattle.std.proofs.Common.{◌≡◌, ◌↔◌, ℕ, ◌<◌, true, length}
use Rattle.source_notes.specs.Notes.{is_flagged}
use Rattle.pointer_flow.specs.Programs.{Program}
use Rattle.pointer_flow.specs.Questions.{IsInstruction}
use Rattle.pointer_flow.specs.Tables.{IsFlowOf}
use Rattle.pointer_notes.proofs.answers.instruction_flags.Given as goal

abbrev pub invariant-loop-number : goal.invariant-loop-number
invariant-loop-number l = record {
  size : length l.flags.items ≡ l.number;
  flags : (p : Program) → IsFlowOf p l.flow → (cell : ℕ) → cell < l.number → (is_flagged l.flags.items cell ≡ true) ↔ IsInstruction p cell;
}
