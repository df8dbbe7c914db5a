-- What the laws of the flow through known pointers say.
use Rattle.std.specs.Prelude.{◌≡◌, ℕ, Bool, true, Option, Some}
use Rattle.flow8.specs.Exits.{referred_cell}
use Rattle.flow8.specs.Flow.{IsAmong}
use Rattle.pointer_flow.specs.States.{IsOneOf, start_state}
use Rattle.pointer_flow.specs.Programs.{Program, is_open}
use Rattle.pointer_flow.specs.Next.{next_states}
use Rattle.pointer_flow.specs.Flow.{IsFollowed, IsKnown, IsLeftOut, MaySkip}
use Rattle.pointer_flow.specs.declared.states.State.{State}

-- A table of states has each start in which an instruction may stand. With a state it has each of its next states in which one may. Known
-- pointers are followed, and no ISZ skips to a cell of 0 that is written.
pub record IsClosed (p : Program) (has : State → Bool) : Type 0 where
  pub starts : (cell : ℕ) → IsAmong cell p.starts → is_open p cell ≡ true → has (start_state cell) ≡ true
  pub next : (s next : State) (word : ℕ) (pointer : Option ℕ) (skips : Bool) → has s ≡ true → p.words s.cell ≡ Some word
      → IsFollowed (IsKnown p) (referred_cell s.cell word) pointer → MaySkip (IsLeftOut p) s skips
      → IsOneOf next (next_states p s word pointer skips) → is_open p next.cell ≡ true → has next ≡ true
