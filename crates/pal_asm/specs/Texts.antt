-- What the two passes over whole sources give.
use Rattle.std.specs.Prelude.{◌≡◌, ℕ, Bool, true, false, Some, None, List, [], ◌∷◌, ◌++◌}
use Rattle.std.specs.Borrow.{Bor}
use Rattle.pal_lex.specs.Text.{text_of}
use Rattle.pal_lex.specs.Statements.{statements}
use Rattle.pal_faults.specs.declared.assembling.AsmFault.{AsmFault}
use Rattle.pal_faults.specs.declared.assembling.AsmFault.TheVariants.{At, Memory}
use Rattle.pal_asm.specs.Places.{Source, values}
use Rattle.pal_asm.specs.Words.{pairs_of}
use Rattle.pal_asm.specs.Faults.{first_of, first_order, words_fault, no_end, no_word, fault_of}

-- the texts of sources, in their order
abbrev pub texts : List (Bor (List ℕ)) → List (List ℕ)
texts [] = []
texts (source ∷ others) = text_of source.now ∷ texts others

-- ## What is promised of sources

-- The statements of a whole source go on after others.
abbrev pub GoesOnAfter : Source → Source → Type 0
GoesOnAfter whole older = (later : Source) × (whole ≡ later ++ older)

-- The first pass wanted memory after these bytes, and none of their statements has a fault that it reports.
pub record RanOut (whole : Source) : Type 0 where
  pub prefix : List ℕ
  pub following : GoesOnAfter whole (statements prefix)
  pub no_fault : first_order (statements prefix) ≡ None

-- The second pass wanted memory after these bytes, and none of their words has a fault.
pub record RanOutAgain (whole : Source) : Type 0 where
  pub prefix : List ℕ
  pub following : GoesOnAfter whole (statements prefix)
  pub no_fault : words_fault (values whole) (statements prefix) ≡ None

-- One of the two passes wanted memory. The second is made only of a text with its `$` and a word, none of whose statements
-- has a fault that the first one reports.
pub record WantsMemory (text : List ℕ) : Type 0 where
  pub again : Bool
  pub first : again ≡ false → RanOut (statements text)
  pub no_fault : again ≡ true → first_of (first_order (statements text)) (no_end text) ≡ None
  pub has_word : again ≡ true → no_word (statements text) ≡ None
  pub second : again ≡ true → RanOutAgain (statements text)

-- The first fault of a text; or want of memory, where no fault was met.
abbrev pub IsFaultOf : List ℕ → AsmFault → Type 0
IsFaultOf text (At code line) = fault_of text ≡ Some (At code line)
IsFaultOf text Memory = WantsMemory text

-- these are the words of a text, which has no fault
abbrev pub ArePairsOf : List ℕ → List (ℕ × ℕ) → Type 0
ArePairsOf text pairs = (fault_of text ≡ None) × (pairs ≡ pairs_of text)
