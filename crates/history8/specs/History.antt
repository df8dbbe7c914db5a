-- The history of a machine: what it was first, and what was done with it since (this project's profile).
use Rattle.std.specs.Prelude.{ℕ, zero, suc, ◌+◌, Bool, nat_lt, if◌then◌else◌, List, [], ◌∷◌, ◌++◌, drop}
use Rattle.cpu8.specs.State.{State}
use Rattle.history8.specs.Changes.{Change, Step, Key, Deposit, Switches, Start, after_change, characters_of_change}

-- ## Changes, the newest first

-- the state after changes of a machine that was first in this state
abbrev pub state_after : List Change → State → State
state_after [] first = first
state_after (last ∷ earlier) first = after_change last (state_after earlier first)

-- the characters that they print, the oldest first
abbrev pub characters_after : List Change → State → List ℕ
characters_after [] first = []
characters_after (last ∷ earlier) first = characters_after earlier first ++ characters_of_change last (state_after earlier first)

-- so many steps after other changes
abbrev pub steps_before : Bool → ℕ → List Change → List Change
steps_before quick zero changes = changes
steps_before quick (suc k) changes = Step quick ∷ steps_before quick k changes

-- how many of them are steps
abbrev pub step_count : List Change → ℕ
step_count [] = 0
step_count (Step quick ∷ earlier) = step_count earlier + 1
step_count (Key character ∷ earlier) = step_count earlier
step_count (Deposit cell word ∷ earlier) = step_count earlier
step_count (Switches word ∷ earlier) = step_count earlier
step_count (Start cell ∷ earlier) = step_count earlier

-- those up to where so many steps were made and the next one is due
abbrev pub changes_to_step : ℕ → List Change → List Change
changes_to_step n [] = []
changes_to_step n (last ∷ earlier) = if nat_lt n (step_count (last ∷ earlier)) then changes_to_step n earlier else last ∷ earlier

-- ## Histories

pub record History : Type 0 where
  -- the machine before the first change
  pub first : State
  -- what was done with it, the newest first
  pub changes : List Change

-- of a machine with which nothing was done
abbrev pub new_history : State → History
new_history s = record { first = s; changes = [] }

-- the machine as it is now
abbrev pub machine_of : History → State
machine_of h = state_after h.changes h.first

-- what it printed
abbrev pub characters_of : History → List ℕ
characters_of h = characters_after h.changes h.first

-- one change more
abbrev pub with_change : Change → History → History
with_change change h = record h { changes = change ∷ h.changes }

-- so many steps more
abbrev pub with_steps : Bool → ℕ → History → History
with_steps quick k h = record h { changes = steps_before quick k h.changes }

-- gone back so many changes, or to the first machine where there are fewer
abbrev pub without : ℕ → History → History
without k h = record h { changes = drop k h.changes }

-- gone back to where so many steps were made and the next one is due
abbrev pub up_to_step : ℕ → History → History
up_to_step n h = record h { changes = changes_to_step n h.changes }
