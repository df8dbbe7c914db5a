-- What becomes of the entries of a history, and how their changes are made again, for private clauses.
use Rattle.std.specs.Prelude.{◌≡◌, ℕ, zero, suc, ◌+◌, ◌≤◌, Bool, List, [], ◌∷◌, ◌++◌, length, Option, Some, None}
use Rattle.cpu8.specs.State.{State}
use Rattle.history8.specs.History.{state_after, characters_after}
use Rattle.history8.specs.Entries.{HasMore, IsFixedPlace, changes_of, oldest}
use Rattle.history8.specs.declared.entries.Entry.{Entry}
use Rattle.history8.specs.declared.entries.Entry.TheVariants as kept

-- the last of them is so many steps of this kind
abbrev pub EndsInSteps : List Entry → Bool → Option ℕ → Type 0
EndsInSteps entries quick (Some count) = (front : List Entry) × (entries ≡ front ++ kept.Steps quick count ∷ [])
EndsInSteps entries quick None = Unit {0}

-- such places stay, with the changes before them, where these are no more than so many
abbrev pub KeepsPlaces : List Entry → List Entry → ℕ → Type 0
KeepsPlaces old new most =
    (count entry steps : ℕ) → IsFixedPlace old count entry steps → count ≤ most
    → IsFixedPlace new count entry steps × (oldest count (changes_of new) ≡ oldest count (changes_of old))

-- the one after so many has
abbrev pub NextHasMore : List Entry → ℕ → ℕ → Type 0
NextHasMore [] entry steps = ⊥
NextHasMore (next ∷ later) zero steps = HasMore next steps
NextHasMore (next ∷ later) (suc entry) steps = NextHasMore later entry steps

-- A machine that was as after so many of the changes is now as after more of them; these printed so many characters.
abbrev pub MakesAgain : List Entry → ℕ → ℕ → State → State → ℕ → Type 0
MakesAgain entries from to before now characters =
    (first : State) → before ≡ state_after (oldest from (changes_of entries)) first
    → (now ≡ state_after (oldest to (changes_of entries)) first)
    × (length (characters_after (oldest to (changes_of entries)) first)
    ≡ length (characters_after (oldest from (changes_of entries)) first) + characters)
