-- What the states of a cell have in common, for private clauses.
use Rattle.std.specs.Prelude.{◌≡◌, ℕ, ◌≤◌, Bool, ◌&&◌, not, nat_lt, List, Option, Some, None}
use Rattle.cpu8.specs.Decoding.{is_indirect}
use Rattle.flow8.specs.Exits.{referred_cell}
use Rattle.pointer_flow.specs.Programs.{is_auto_index}
use Rattle.pointer_flow.specs.States.{IsState}
use Rattle.pointer_flow.specs.Questions.{rank}
use Rattle.pointer_flow.specs.Tables.{IsMarked}
use Rattle.pointer_flow.specs.declared.calls.Call.{Call}
use Rattle.pointer_flow.specs.declared.cell_states.Settled.{Settled}
use Rattle.pointer_flow.specs.declared.cell_states.Settled.TheVariants.{NoState, Field, Several}
use Rattle.pointer_flow.specs.declared.states.State.{State}

-- a state of a cell is marked
pub record IsMarkedAt (bits : List ℕ) (cell : ℕ) (s : State) : Type 0 where
  pub state : IsState s
  pub at : s.cell ≡ cell
  pub marked : IsMarked bits s

-- the field that all states have that are so, where that is one
abbrev pub IsSettled : (State → Type 0) → (State → Option ℕ) → Settled → Type 0
IsSettled Is field_of NoState = (s : State) → Is s → ⊥
IsSettled Is field_of (Field field) = ((s : State) × Is s) × ((s : State) → Is s → field_of s ≡ Some field)
IsSettled Is field_of Several = (field : ℕ) → ((s : State) → Is s → field_of s ≡ Some field) → ⊥

-- the call of the states that are so which counts before the others
abbrev pub IsEarliest : (State → Type 0) → (State → Option Call) → Option Call → Type 0
IsEarliest Is call_of None = (s : State) → Is s → call_of s ≡ None
IsEarliest Is call_of (Some call) =
    ((s : State) × Is s × (call_of s ≡ Some call)) × ((s : State) (other : Call) → Is s → call_of s ≡ Some other → rank call ≤ rank other)

-- a word refers through a pointer that is no auto-index
abbrev pub refers_through : ℕ → ℕ → Bool
refers_through cell word = nat_lt word 0o6000 && (is_indirect word && not (is_auto_index (referred_cell cell word)))
