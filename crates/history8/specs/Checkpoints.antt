-- Copies of a machine that a history keeps on its way.
use Rattle.std.specs.Prelude.{◌≡◌, ℕ, List, [], ◌∷◌, length}
use Rattle.cpu8.specs.State.{State, new_machine}
use Rattle.history8.specs.History.{state_after, characters_after}
use Rattle.history8.specs.Entries.{IsFixedPlace, changes_of, oldest}
use Rattle.history8.specs.declared.entries.Entry.{Entry}

-- a machine at a place of its history
pub record Checkpoint : Type 0 where
  -- how many changes are before it, as whole entries and steps of the next one
  pub count : ℕ
  pub entry : ℕ
  pub steps : ℕ
  -- how many characters were printed before it
  pub characters : ℕ
  pub state : State

-- the machine of the first
abbrev pub first_state : List Checkpoint → State
first_state [] = new_machine []
first_state (checkpoint ∷ later) = checkpoint.state

-- it is the machine that the changes before its place leave
pub record IsCheckpoint (entries : List Entry) (first : State) (checkpoint : Checkpoint) : Type 0 where
  pub place : IsFixedPlace entries checkpoint.count checkpoint.entry checkpoint.steps
  pub machine : checkpoint.state ≡ state_after (oldest checkpoint.count (changes_of entries)) first
  pub printed : checkpoint.characters ≡ length (characters_after (oldest checkpoint.count (changes_of entries)) first)

abbrev pub AllCheckpoints : List Entry → State → List Checkpoint → Type 0
AllCheckpoints entries first [] = Unit {0}
AllCheckpoints entries first (checkpoint ∷ later) = IsCheckpoint entries first checkpoint × AllCheckpoints entries first later

-- the first of them is before all changes
abbrev pub AreCheckpoints : List Entry → State → List Checkpoint → Type 0
AreCheckpoints entries first [] = ⊥
AreCheckpoints entries first (checkpoint ∷ later) =
    (checkpoint.count ≡ 0) × IsCheckpoint entries first checkpoint × AllCheckpoints entries first later
