-- What notes are made of.
use Rattle.std.proofs.Common.{◌≡◌, ◌↔◌, ℕ, ◌<◌, Bool, true, true≢false, is_some, List, length, Option, Some, None, ap, sym, subst, ◌∙◌}
use Rattle.word12.specs.declared.sizes.TheConstants.{CORE}
use Rattle.flow8.specs.Flow.{word_in}
use Rattle.source_notes.specs.Notes.{Notes, is_flagged}
use Rattle.pointer_flow.specs.Programs.{Program}
use Rattle.pointer_flow.specs.Questions.{Answers, AnswersCall, IsCallIn, IsInstruction}
use Rattle.pointer_flow.specs.Flow.{IsKnown}
use Rattle.pointer_flow.specs.declared.calls.Call.{Call}
use Rattle.pointer_notes.specs.Heads.{assumed_cells}
use Rattle.pointer_notes.specs.Tables.{AreFound, AreTied, answers_in, view_of}
use Rattle.pointer_notes.specs.Views.{AreAnswers, IsViewOf}
use Rattle.pointer_notes.specs.declared.answers.CellAnswers.{CellAnswers}
use Rattle.pointer_notes.specs.declared.chains.Chains.{Chains}

-- the lists are the view of a program, where each has its answers
pub viewed : (p : Program) (words : List (Option ℕ)) (code : List Bool) (answers : List CellAnswers) → p.words ≡ word_in words
    → ((cell : ℕ) → cell < CORE → (is_flagged code cell ≡ true) ↔ IsInstruction p cell)
    → ((cell : ℕ) → cell < CORE → AreAnswers p cell (answers_in answers cell)) → IsViewOf p (view_of words code answers)
viewed p words code answers same instructions all = record { words = sym same; code = instructions; answers = all }

-- a cell is a call where one is answered
pub is_called : (p : Program) (cell : ℕ) (call : Option Call) (b : Bool) → b ≡ is_some call → AnswersCall p cell call
    → (b ≡ true) ↔ ((call : Call) × IsCallIn p cell call)
is_called p cell None b is none = (λ yes. absurd (true≢false (sym yes ∙ is)), λ found. absurd (none found.0 found.1))
is_called p cell (Some call) b is it = (λ yes. (call, it.is), λ found. is)

-- and a pointer is known where its word is
pub is_known : (p : Program) (cell : ℕ) (word : Option ℕ) (b : Bool) → b ≡ is_some word → Answers (IsKnown p cell) word
    → (b ≡ true) ↔ ((word : ℕ) × IsKnown p cell word)
is_known p cell None b is none = (λ yes. absurd (true≢false (sym yes ∙ is)), λ found. absurd (none found.0 found.1))
is_known p cell (Some word) b is it = (λ yes. (word, it), λ found. is)

-- what is found by answers that are lent
pub found_by : (words : List (Option ℕ)) (code : List Bool) (answers lent : List CellAnswers) (notes : Notes) (calls others targets pointers : Chains)
    (assumed : List ℕ) → lent ≡ answers → length words ≡ CORE → length code ≡ CORE → length answers ≡ CORE → notes.words ≡ words → notes.code ≡ code
    → AreTied (view_of words code lent) calls others targets pointers → assumed ≡ assumed_cells (view_of words code lent)
    → AreFound words code answers notes calls others targets pointers assumed
found_by words code answers lent notes calls others targets pointers assumed lends words_size code_size answers_size noted_words noted_code tied are = record {
  words_size = words_size;
  code_size = code_size;
  answers_size = answers_size;
  noted_words = noted_words;
  noted_code = noted_code;
  tied = subst (λ l. AreTied (view_of words code l) calls others targets pointers) lends tied;
  assumed_are = are ∙ ap (λ l. assumed_cells (view_of words code l)) lends;
}
