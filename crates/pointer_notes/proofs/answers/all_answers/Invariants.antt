use Rattle.std.proofs.Common.{◌≡◌, ℕ, ◌<◌, length}
use Rattle.pointer_flow.specs.Programs.{Program}
use Rattle.pointer_flow.specs.Tables.{IsFlowOf}
use Rattle.pointer_notes.specs.Views.{AreAnswers}
use Rattle.pointer_notes.specs.Tables.{answers_in}
use Rattle.pointer_notes.proofs.answers.all_answers.Given as goal

abbrev pub invariant-loop-number : goal.invariant-loop-number
invariant-loop-number l = record {
  size : length l.answers.items ≡ l.number;
  answers : (p : Program) → IsFlowOf p l.flow → (cell : ℕ) → cell < l.number → AreAnswers p cell (answers_in l.answers.items cell);
}
