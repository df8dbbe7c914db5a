-- How a history keeps its changes: steps by their number. Entries stand oldest first, changes newest first.
use Rattle.std.specs.Prelude.{◌≡◌, ℕ, zero, suc, ◌-◌, ◌<◌, ◌≤◌, Bool, true, false, List, [], ◌∷◌, length, drop}
use Rattle.history8.specs.Changes.{Change, Key, Deposit, Switches, Start}
use Rattle.history8.specs.History.{steps_before}
use Rattle.history8.specs.declared.entries.Entry.{Entry}
use Rattle.history8.specs.declared.entries.Entry.TheVariants as kept

-- other changes, and then those of an entry
abbrev pub with_entry : Entry → List Change → List Change
with_entry (kept.Steps quick count) changes = steps_before quick count changes
with_entry (kept.Key character) changes = Key character ∷ changes
with_entry (kept.Deposit cell word) changes = Deposit cell word ∷ changes
with_entry (kept.Switches word) changes = Switches word ∷ changes
with_entry (kept.Start cell) changes = Start cell ∷ changes

abbrev pub with_entries : List Entry → List Change → List Change
with_entries [] changes = changes
with_entries (entry ∷ later) changes = with_entries later (with_entry entry changes)

-- the changes that entries are
abbrev pub changes_of : List Entry → List Change
changes_of entries = with_entries entries []

abbrev pub is_no_step : Entry → Bool
is_no_step (kept.Steps quick count) = false
is_no_step (kept.Key character) = true
is_no_step (kept.Deposit cell word) = true
is_no_step (kept.Switches word) = true
is_no_step (kept.Start cell) = true

-- the oldest of changes, so many of them
abbrev pub oldest : ℕ → List Change → List Change
oldest count changes = drop (length changes - count) changes

-- ## Places

-- so many steps of an entry, or none of one that is no step
abbrev pub with_part : Entry → ℕ → List Change → List Change
with_part (kept.Steps quick count) steps changes = steps_before quick steps changes
with_part (kept.Key character) steps changes = changes
with_part (kept.Deposit cell word) steps changes = changes
with_part (kept.Switches word) steps changes = changes
with_part (kept.Start cell) steps changes = changes

-- other changes, and then those of so many whole entries and of so many steps of the next one
abbrev pub with_entries_to : List Entry → ℕ → ℕ → List Change → List Change
with_entries_to [] entry steps changes = changes
with_entries_to (next ∷ later) zero steps changes = with_part next steps changes
with_entries_to (next ∷ later) (suc entry) steps changes = with_entries_to later entry steps (with_entry next changes)

-- the changes before a place
abbrev pub changes_to : List Entry → ℕ → ℕ → List Change
changes_to entries entry steps = with_entries_to entries entry steps []

-- an entry has so many steps, and none where it is no step
abbrev pub HasSteps : Entry → ℕ → Type 0
HasSteps (kept.Steps quick count) steps = steps ≤ count
HasSteps (kept.Key character) steps = steps ≡ 0
HasSteps (kept.Deposit cell word) steps = steps ≡ 0
HasSteps (kept.Switches word) steps = steps ≡ 0
HasSteps (kept.Start cell) steps = steps ≡ 0

-- the one after so many has
abbrev pub NextHasSteps : List Entry → ℕ → ℕ → Type 0
NextHasSteps [] entry steps = (entry ≡ 0) × (steps ≡ 0)
NextHasSteps (next ∷ later) zero steps = HasSteps next steps
NextHasSteps (next ∷ later) (suc entry) steps = NextHasSteps later entry steps

pub record IsPlace (entries : List Entry) (count entry steps : ℕ) : Type 0 where
  pub within : NextHasSteps entries entry steps
  pub count_within : count ≤ length (changes_of entries)
  pub changes : changes_to entries entry steps ≡ oldest count (changes_of entries)

-- the last of so many whole entries, if there is one, is no step
abbrev pub IsAfterNoStep : List Entry → ℕ → Type 0
IsAfterNoStep [] entry = Unit {0}
IsAfterNoStep (next ∷ later) zero = Unit {0}
IsAfterNoStep (next ∷ later) (suc zero) = is_no_step next ≡ true
IsAfterNoStep (next ∷ later) (suc (suc entry)) = IsAfterNoStep later (suc entry)

-- a place that stays one as more steps are made
pub record IsFixedPlace (entries : List Entry) (count entry steps : ℕ) : Type 0 where
  pub is_place : IsPlace entries count entry steps
  -- no steps that may become more stand right before it as a whole entry
  pub is_fixed : steps ≡ 0 → IsAfterNoStep entries entry

-- ## Entries that are some

-- an entry has more than so many steps, or it is a change that is due
abbrev pub HasMore : Entry → ℕ → Type 0
HasMore (kept.Steps quick count) steps = steps < count
HasMore (kept.Key character) steps = steps ≡ 0
HasMore (kept.Deposit cell word) steps = steps ≡ 0
HasMore (kept.Switches word) steps = steps ≡ 0
HasMore (kept.Start cell) steps = steps ≡ 0

-- none of them is of no steps
abbrev pub AreSome : List Entry → Type 0
AreSome [] = Unit {0}
AreSome (entry ∷ later) = HasMore entry 0 × AreSome later
