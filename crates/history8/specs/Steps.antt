-- How far searches and runs of a history have come. Private clauses alone cite this.
use Rattle.std.specs.Prelude.{◌≡◌, ℕ, suc, ◌+◌, ◌-◌, ◌<◌, ◌≤◌, Bool, true, false, if◌then◌else◌, List, Option, Some, None}
use Rattle.cpu8.specs.State.{State}
use Rattle.cpu8.specs.Go.{after, answer}
use Rattle.history8.specs.Changes.{ready}
use Rattle.history8.specs.History.{state_after}
use Rattle.history8.specs.Stops.{Condition, ending, holds_of}
use Rattle.history8.specs.Entries.{changes_of, oldest}
use Rattle.history8.specs.declared.entries.Entry.{Entry}
use Rattle.history8.specs.declared.outcomes.End.{End}
use Rattle.history8.specs.declared.outcomes.End.TheVariants as ends

-- whether a condition held after so many of the changes
abbrev pub holds_at : Condition → List Entry → State → ℕ → Bool
holds_at condition entries first count = holds_of condition (oldest count (changes_of entries)) first

-- the last place after one and up to another, at which it held
abbrev pub IsGreatest : Condition → List Entry → State → ℕ → ℕ → Option ℕ → Type 0
IsGreatest condition entries first from end (Some found) =
    (from < found) × (found ≤ end) × (holds_at condition entries first found ≡ true)
    × ((m : ℕ) → found < m → m < end + 1 → holds_at condition entries first m ≡ false)
IsGreatest condition entries first from end None = (m : ℕ) → from < m → m < end + 1 → holds_at condition entries first m ≡ false

-- the place that was found last: this one where the condition holds there
abbrev pub newest_of : Bool → ℕ → Option ℕ → Option ℕ
newest_of is_met place found = if is_met then Some place else found

-- the last place before so many changes
abbrev pub IsLastPlace : Condition → List Entry → State → ℕ → Option ℕ → Type 0
IsLastPlace condition entries first count found = IsGreatest condition entries first 0 (count - 1) found

-- the same of a machine that is as after the first of the two places
abbrev pub IsLastOf : Condition → List Entry → ℕ → ℕ → State → Option ℕ → Type 0
IsLastOf condition entries from end before found =
    (first : State) → before ≡ state_after (oldest from (changes_of entries)) first → IsGreatest condition entries first from end found

-- More of the changes were made. The condition holds after the last of them or not, and after none before.
abbrev pub FindsNext : Condition → List Entry → ℕ → ℕ → State → Bool → Type 0
FindsNext condition entries from to before is_met =
    (first : State) → before ≡ state_after (oldest from (changes_of entries)) first
    → ((k : ℕ) → from < k → k < to → holds_at condition entries first k ≡ false) × (is_met ≡ holds_at condition entries first to)

-- whether a condition holds of the step after so many
abbrev pub holds_after : Condition → Bool → State → ℕ → Bool
holds_after condition quick s k = condition (ready quick (after quick k s)) (answer quick k s) (after quick (suc k) s)

-- Some steps were made, at most so many. After each but the last the machine runs, and the condition doesn't hold.
pub record RunsSteps (condition : Condition) (quick : Bool) (most : ℕ) (s now : State) (steps : ℕ) : Type 0 where
  pub some : 0 < steps
  pub within : steps ≤ most
  pub state : now ≡ after quick steps s
  pub on : (k : ℕ) → suc k < steps → ((after quick (suc k) s).running ≡ true) × (holds_after condition quick s k ≡ false)

-- the same, and whether it holds after the last
pub record MakesSteps (condition : Condition) (quick : Bool) (most : ℕ) (s now : State) (steps : ℕ) (is_met : Bool) : Type 0 where
  pub made : RunsSteps condition quick most s now steps
  pub last : (k : ℕ) → suc k ≡ steps → is_met ≡ holds_after condition quick s k

-- A part of a run of at most n steps: `Limit` says that nothing ends it yet.
abbrev pub EndsPart : Option End → ℕ → End → Type 0
EndsPart found steps ends.Stopped = found ≡ Some ends.Stopped
EndsPart found steps ends.Met = found ≡ Some ends.Met
EndsPart found steps ends.Limit = (found ≡ None) × (0 < steps)
EndsPart found steps ends.Memory = steps ≡ 0

pub record IsPartOfRun (quick : Bool) (condition : Condition) (s : State) (n steps : ℕ) (end : End) : Type 0 where
  pub within : steps ≤ n
  pub least : (m : ℕ) → 0 < m → m < steps → ending quick condition s m ≡ None
  pub last : EndsPart (ending quick condition s steps) steps end

-- why a run ends after a step: the machine runs on or not, and its condition holds or not
abbrev pub end_after : Bool → Bool → End
end_after runs is_met = if runs then (if is_met then ends.Met else ends.Limit) else ends.Stopped

abbrev pub is_limit : End → Bool
is_limit ends.Stopped = false
is_limit ends.Met = false
is_limit ends.Limit = true
is_limit ends.Memory = false
