-- What a listing by pointers reads of each cell (this project's profile).
use Rattle.std.specs.Prelude.{◌≡◌, ◌↔◌, ℕ, ◌<◌, Bool, true, Option}
use Rattle.word12.specs.declared.sizes.TheConstants.{CORE}
use Rattle.pointer_flow.specs.Programs.{Program}
use Rattle.pointer_flow.specs.Flow.{IsKnown}
use Rattle.pointer_flow.specs.Questions.{Answers, AnswersWriter, IsCallIn, IsInstruction, IsJumpPlace, IsReturnCell, IsTarget}
use Rattle.pointer_flow.specs.Returns.{inline_count}
use Rattle.pointer_flow.specs.declared.calls.Call.{Call}
use Rattle.pointer_notes.specs.declared.answers.CellAnswers.{CellAnswers}

pub record View : Type 0 where
  -- the word that the tape gives a cell, if it gives it one
  pub words : ℕ → Option ℕ
  -- the program reaches the instruction in it
  pub is_code : ℕ → Bool
  -- what the flow of the program through its known pointers answers of it
  pub answers : ℕ → CellAnswers

-- these are the answers of a cell
pub record AreAnswers (p : Program) (cell : ℕ) (it : CellAnswers) : Type 0 where
  pub target : Answers (IsTarget p cell) it.target
  pub place : Answers (IsJumpPlace p cell) it.place
  pub call : (it.is_call ≡ true) ↔ ((call : Call) × IsCallIn p cell call)
  pub known : (it.is_known ≡ true) ↔ ((word : ℕ) × IsKnown p cell word)
  pub writer : AnswersWriter p cell it.writer
  pub returns : (it.is_return ≡ true) ↔ IsReturnCell p cell
  pub inline : it.inline_count ≡ inline_count p.words cell

-- This is what a listing reads of a program.
pub record IsViewOf (p : Program) (view : View) : Type 0 where
  pub words : view.words ≡ p.words
  pub code : (cell : ℕ) → cell < CORE → (view.is_code cell ≡ true) ↔ IsInstruction p cell
  pub answers : (cell : ℕ) → cell < CORE → AreAnswers p cell (view.answers cell)
