-- Steps of the machine up to a stop (this project's profile). Breaks are a list that says for each cell, by its number,
-- whether it has one; a cell past its end has none.
use Rattle.std.specs.Prelude.{◌≡◌, ℕ, zero, suc, ◌<◌, ◌≤◌, Bool, false, ◌&&◌, if◌then◌else◌, List, [], ◌∷◌, ◌++◌, slice_index_or, Option, Some, None, IsSome, unwrap_or}
use Rattle.cpu8.specs.State.{State, next_cell, printer_done}
use Rattle.cpu8.specs.Step.{step}
use Rattle.cpu8.specs.declared.outcomes.Stepped.{Stepped}
use Rattle.cpu8.specs.declared.outcomes.Stepped.TheVariants.{Stopped, Interrupted, Ran, Halted, Unassigned}
use Rattle.cpu8.specs.declared.outcomes.Why.{Why}

-- whether a cell has a break
abbrev pub is_break : List Bool → ℕ → Bool
is_break breaks cell = slice_index_or breaks cell false

-- a step, before which a quick printer ends its character where it is busy
abbrev pub printing_step : Bool → State → State × Stepped
printing_step quick s = step (if quick && s.teletype.busy then printer_done s else s)

-- the state after so many steps
unfoldable pub after : Bool → ℕ → State → State
after quick zero s = s
after quick (suc k) s = (printing_step quick (after quick k s)).0

-- what the step after the first k did
abbrev pub answer : Bool → ℕ → State → Stepped
answer quick k s = (printing_step quick (after quick k s)).1

-- whether the next instruction is at a break
abbrev pub break_ahead : List Bool → State → Option Why
break_ahead breaks s = if is_break breaks (next_cell s) then Some Why.Break else None

-- why to stop after a step that did this and left this state: a HLT and an unassigned word come before a break
abbrev pub reason : List Bool → Stepped → State → Option Why
reason breaks Halted s = Some Why.Halt
reason breaks (Unassigned word) s = Some Why.Unassigned
reason breaks (Ran printed) s = break_ahead breaks s
reason breaks Interrupted s = break_ahead breaks s
reason breaks Stopped s = break_ahead breaks s

-- Why to stop after so many steps, if there is a reason. Before the first step no break is a reason.
unfoldable pub ending : Bool → List Bool → State → ℕ → Option Why
ending quick breaks s zero = if s.running then None else Some Why.Halt
ending quick breaks s (suc k) = reason breaks (answer quick k s) (after quick (suc k) s)

-- A go of at most n steps makes the least number of them after which there is a reason to stop, and n where there is
-- none up to n.
pub record IsGo (quick : Bool) (breaks : List Bool) (s : State) (n steps : ℕ) (why : Why) : Type 0 where
  pub within : steps ≤ n
  pub least : (m : ℕ) → m < steps → ending quick breaks s m ≡ None
  pub last : steps < n → IsSome (ending quick breaks s steps)
  pub reason : why ≡ unwrap_or (ending quick breaks s steps) Why.Limit

-- the character that a step printed
abbrev pub character_of : Stepped → List ℕ
character_of (Ran (Some c)) = c ∷ []
character_of (Ran None) = []
character_of Interrupted = []
character_of Stopped = []
character_of Halted = []
character_of (Unassigned word) = []

-- what so many steps print
unfoldable pub characters_of : Bool → ℕ → State → List ℕ
characters_of quick zero s = []
characters_of quick (suc k) s = characters_of quick k s ++ character_of (answer quick k s)
