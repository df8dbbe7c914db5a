-- The flow of a program over the words of a tape.
use Rattle.std.specs.Prelude.{◌≡◌, ◌⊎◌, ◌↔◌, ℕ, Bool, true, false, List, [], ◌∷◌, length, Option, Some, None, slice_index_or}
use Rattle.word12.specs.declared.sizes.TheConstants.{CORE}
use Rattle.flow8.specs.Exits.{IsExit}

-- the word that a list gives a cell, if it gives it one
abbrev pub word_in : List (Option ℕ) → ℕ → Option ℕ
word_in words cell = slice_index_or words cell None

-- it is one of these
abbrev pub IsAmong : ℕ → List ℕ → Type 0
IsAmong cell [] = ⊥
IsAmong cell (first ∷ others) = (cell ≡ first) ⊎ IsAmong cell others

-- What a program that starts at these cells reaches. These are the starts to which these words give a word. They are also the exits of
-- each instruction that is reached, as far as these words give them one. Nothing else is reached.
pub data Reaches (words : ℕ → Option ℕ) (starts : List ℕ) : ℕ → Type 0 where
  start : (cell word : ℕ) → IsAmong cell starts → words cell ≡ Some word → Reaches words starts cell
  goes : (cell word next other : ℕ) → Reaches words starts cell → words cell ≡ Some word → IsExit cell word next → words next ≡ Some other
      → Reaches words starts next

-- whether a table of cells has just what is reached
pub record IsFlow (words : List (Option ℕ)) (starts : List ℕ) (reached : List Bool) : Type 0 where
  pub size : length reached ≡ CORE
  pub cells : (cell : ℕ) → (slice_index_or reached cell false ≡ true) ↔ Reaches (word_in words) starts cell
