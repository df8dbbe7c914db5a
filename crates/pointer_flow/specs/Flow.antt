-- The flow of a program through its known pointers (this project's reading of a program's flow). Three least sets of states stand on each
-- other: `direct`, `wide` and the flow.
use Rattle.std.specs.Prelude.{◌≡◌, ◌≢◌, ℕ, Bool, true, false, Option, Some, None}
use Rattle.flow8.specs.Exits.{cell_after, referred_cell}
use Rattle.flow8.specs.Flow.{IsAmong}
use Rattle.pointer_flow.specs.States.{IsOneOf, start_state}
use Rattle.pointer_flow.specs.Programs.{Program, is_open}
use Rattle.pointer_flow.specs.Next.{next_states}
use Rattle.pointer_flow.specs.Writes.{written_cells}
use Rattle.pointer_flow.specs.declared.states.State.{State}

-- What is followed through a pointer: nothing, or the word that is given there of those that may be followed. More words reach more and write
-- more.
abbrev pub IsFollowed : (ℕ → ℕ → Type 0) → ℕ → Option ℕ → Type 0
IsFollowed Gives pointer None = Unit {0}
IsFollowed Gives pointer (Some word) = Gives pointer word

-- an ISZ may skip, unless it would into a cell to which no ISZ skips
abbrev pub MaySkip : (ℕ → Type 0) → State → Bool → Type 0
MaySkip IsLeftOut s false = Unit {0}
MaySkip IsLeftOut s true = IsLeftOut (cell_after 2 s.cell) → ⊥

-- What a program reaches, where these pointers are followed with these words, and no ISZ skips into some cells. It has each start in which an
-- instruction may stand, and with a state each of its next states in which one may. It has nothing else.
pub data Reaches (p : Program) (Gives : ℕ → ℕ → Type 0) (IsLeftOut : ℕ → Type 0) : State → Type 0 where
  start : (cell : ℕ) → IsAmong cell p.starts → is_open p cell ≡ true → Reaches p Gives IsLeftOut (start_state cell)
  goes : (s next : State) (word : ℕ) (pointer : Option ℕ) (skips : Bool) → Reaches p Gives IsLeftOut s → p.words s.cell ≡ Some word
      → IsFollowed Gives (referred_cell s.cell word) pointer → MaySkip IsLeftOut s skips → IsOneOf next (next_states p s word pointer skips)
      → is_open p next.cell ≡ true → Reaches p Gives IsLeftOut next

-- a state writes a cell, where these pointers are followed
pub record Writes (p : Program) (Gives : ℕ → ℕ → Type 0) (s : State) (cell : ℕ) : Type 0 where
  pub word : ℕ
  pub pointer : Option ℕ
  pub given : p.words s.cell ≡ Some word
  pub followed : IsFollowed Gives (referred_cell s.cell word) pointer
  pub written : IsAmong cell (written_cells p s word pointer)

-- ## What is reached through no pointer

abbrev pub NoPointer : ℕ → ℕ → Type 0
NoPointer pointer word = ⊥

abbrev pub NoCell : ℕ → Type 0
NoCell cell = ⊥

abbrev pub IsDirect : Program → State → Type 0
IsDirect p s = Reaches p NoPointer NoCell s

-- ## What is reached through pointers that nothing direct writes

-- a cell has this word, which isn't 0, and no direct state writes it
pub record IsCandidate (p : Program) (pointer word : ℕ) : Type 0 where
  pub given : p.words pointer ≡ Some word
  pub nonzero : word ≢ 0
  pub unwritten : (s : State) → IsDirect p s → Writes p NoPointer s pointer → ⊥

abbrev pub IsWide : Program → State → Type 0
IsWide p s = Reaches p (IsCandidate p) NoCell s

-- a state of these writes a cell
pub record IsWritten (p : Program) (cell : ℕ) : Type 0 where
  pub writer : State
  pub wide : IsWide p writer
  pub writes : Writes p (IsCandidate p) writer cell

-- ## The flow

-- a pointer is known with this word: it is a candidate, and nothing wide writes it
pub record IsKnown (p : Program) (pointer word : ℕ) : Type 0 where
  pub candidate : IsCandidate p pointer word
  pub unwritten : IsWritten p pointer → ⊥

-- A cell that holds 0 and is written: a pointer that is counted up doesn't come to 0, and the word after its ISZ may be such a cell.
pub record IsLeftOut (p : Program) (cell : ℕ) : Type 0 where
  pub zero : p.words cell ≡ Some 0
  pub written : IsWritten p cell

abbrev pub IsInFlow : Program → State → Type 0
IsInFlow p s = Reaches p (IsKnown p) (IsLeftOut p) s
