-- What becomes of the copies that a history keeps, for private clauses.
use Rattle.std.specs.Prelude.{◌≡◌, ◌⊎◌, ℕ, ◌<◌, ◌≤◌, List, [], ◌∷◌, ◌++◌, length, map}
use Rattle.std.specs.List.{remove}
use Rattle.cpu8.specs.State.{State}
use Rattle.history8.specs.Checkpoints.{Checkpoint}

-- that of a machine before all changes
abbrev pub first_checkpoint : State → Checkpoint
first_checkpoint s = record { count = 0; entry = 0; steps = 0; characters = 0; state = s }

-- all of them are before no more than so many changes
abbrev pub AreWithin : ℕ → List Checkpoint → Type 0
AreWithin count [] = Unit {0}
AreWithin count (checkpoint ∷ later) = (checkpoint.count ≤ count) × AreWithin count later

-- how many changes are before each
abbrev pub counts_of : List Checkpoint → List ℕ
counts_of checkpoints = map (λ checkpoint. checkpoint.count) checkpoints

-- one of them goes, but not the first
abbrev pub LosesOne : List Checkpoint → List Checkpoint → Type 0
LosesOne old new = (i : ℕ) × (0 < i) × (i < length old) × (new ≡ remove old i)

-- one more is kept, if there is memory or an older one can go
abbrev pub KeepsCheckpoint : List Checkpoint → List Checkpoint → Checkpoint → Type 0
KeepsCheckpoint old new checkpoint =
    (new ≡ old) ⊎ ((new ≡ old ++ checkpoint ∷ [])
    ⊎ ((left : List Checkpoint) × LosesOne old left × (new ≡ left ++ checkpoint ∷ [])))
