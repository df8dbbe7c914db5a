-- Where a run ends, forwards and backwards: at the nearest step of which a condition holds (this project's profile).
use Rattle.std.specs.Prelude.{◌≡◌, ℕ, zero, suc, ◌/◌, ◌<◌, ◌≤◌, Bool, true, false, ◌&&◌, ◌||◌, not, nat_eq, if◌then◌else◌, List, [], ◌∷◌, map, drop, Option, Some, None}
use Rattle.cpu8.specs.State.{State, next_cell, grants_interrupt}
use Rattle.cpu8.specs.Decoding.{is_indirect}
use Rattle.cpu8.specs.Reference.{pointer_place}
use Rattle.cpu8.specs.Step.{next_word}
use Rattle.cpu8.specs.Stores.{Store, stores}
use Rattle.cpu8.specs.Go.{after, answer, printing_step, is_break}
use Rattle.cpu8.specs.declared.outcomes.Stepped.{Stepped}
use Rattle.cpu8.specs.declared.outcomes.Stepped.TheVariants.{Stopped, Interrupted, Ran, Halted, Unassigned}
use Rattle.history8.specs.Changes.{Change, Step, Key, Deposit, Switches, Start, ready}
use Rattle.history8.specs.History.{History, state_after}
use Rattle.history8.specs.declared.outcomes.End.{End}
use Rattle.history8.specs.declared.outcomes.End.TheVariants as ends

-- A condition of a step: of the state in which it was made, what it did, and the state that it left.
abbrev pub Condition : Type 0
Condition = State → Stepped → State → Bool

-- ## Forwards

-- why to stop after a step, if there is a reason: that the machine stopped comes first
abbrev pub stop_after : Condition → State → Stepped → State → Option End
stop_after condition before did now =
    if not now.running then Some ends.Stopped else if condition before did now then Some ends.Met else None

-- Why to stop after so many steps. Before the first the condition is not asked.
abbrev pub ending : Bool → Condition → State → ℕ → Option End
ending quick condition s zero = if s.running then None else Some ends.Stopped
ending quick condition s (suc k) = stop_after condition (ready quick (after quick k s)) (answer quick k s) (after quick (suc k) s)

-- a run of at most n steps ends so after this many of them, where this was found there
abbrev pub EndsRun : Option End → ℕ → ℕ → End → Type 0
EndsRun found n steps ends.Stopped = found ≡ Some ends.Stopped
EndsRun found n steps ends.Met = found ≡ Some ends.Met
EndsRun found n steps ends.Limit = (found ≡ None) × (steps ≡ n)
EndsRun found n steps ends.Memory = (found ≡ None) × (steps < n)

-- A run of at most n steps makes the least number of them after which there is a reason to stop. Where there is none up to n, it
-- makes n, or fewer where memory was refused.
pub record IsRunTo (quick : Bool) (condition : Condition) (s : State) (n steps : ℕ) (end : End) : Type 0 where
  pub within : steps ≤ n
  pub least : (m : ℕ) → m < steps → ending quick condition s m ≡ None
  pub last : EndsRun (ending quick condition s steps) n steps end

-- ## Backwards

-- whether the newest change is a step of which a condition holds
abbrev pub holds_of : Condition → List Change → State → Bool
holds_of condition [] first = false
holds_of condition (Step quick ∷ earlier) first =
    condition (ready quick (state_after earlier first)) (printing_step quick (state_after earlier first)).1 (printing_step quick (state_after earlier first)).0
holds_of condition (Key character ∷ earlier) first = false
holds_of condition (Deposit cell word ∷ earlier) first = false
holds_of condition (Switches word ∷ earlier) first = false
holds_of condition (Start cell ∷ earlier) first = false

-- whether it held so many changes ago
abbrev pub holds_back : Condition → History → ℕ → Bool
holds_back condition h k = holds_of condition (drop k h.changes) h.first

-- The least number of changes, one at least, to go back to where a condition held: the greatest place before the present. Where it
-- never held there is none.
abbrev pub LeastBack : Condition → History → Option ℕ → Type 0
LeastBack condition h (Some k) =
    (0 < k) × (holds_back condition h k ≡ true) × ((m : ℕ) → 0 < m → m < k → holds_back condition h m ≡ false)
LeastBack condition h None = (m : ℕ) → 0 < m → holds_back condition h m ≡ false

-- ## Conditions

-- the next instruction is at a break
abbrev pub at_break : List Bool → Condition
at_break breaks before did now = is_break breaks (next_cell now)

-- the next instruction is at this cell
abbrev pub at_cell : ℕ → Condition
at_cell cell before did now = nat_eq (next_cell now) cell

-- one of these cells is watched
abbrev pub any_in : (ℕ → Bool) → List ℕ → Bool
any_in watched [] = false
any_in watched (cell ∷ cells) = watched cell || any_in watched cells

-- one of these stores is in a cell that is watched
abbrev pub stores_in : (ℕ → Bool) → List Store → Bool
stores_in watched stores = any_in watched (map (λ store. store.cell) stores)

-- the step stored in a cell that is watched, whether or not its word became another one
abbrev pub on_write : (ℕ → Bool) → Condition
on_write watched before did now = stores_in watched (stores before)

-- the step printed a character
abbrev pub is_print : Stepped → Bool
is_print (Ran (Some c)) = true
is_print (Ran None) = false
is_print Stopped = false
is_print Interrupted = false
is_print Halted = false
is_print (Unassigned word) = false

abbrev pub on_print : Condition
on_print before did now = is_print did

-- an instruction is done next: the machine runs, and no interrupt comes in its place
abbrev pub is_undisturbed : State → Bool
is_undisturbed s = s.running && not (grants_interrupt s)

-- A subroutine returns by an indirect JMP through its first word, wherever that leads: to the cell after the JMS, or past arguments there.
abbrev pub returns_through : ℕ → State → Bool
returns_through entry s =
    is_undisturbed s && (nat_eq (next_word s / 0o1000) 5 && (is_indirect (next_word s) && nat_eq (pointer_place s (next_word s)) entry))

-- `finish`: the subroutine with this first word returned
abbrev pub on_return : ℕ → Condition
on_return entry before did now = returns_through entry before
