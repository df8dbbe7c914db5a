-- Steps that a run makes with no look at the Teletype, for private clauses.
use Rattle.std.specs.Prelude.{◌≡◌, ℕ, ◌<◌, ◌≤◌, Bool, true, false, ◌&&◌, not, nat_eq, if◌then◌else◌, List, length, None, slice_index_or}
use Rattle.word12.specs.declared.sizes.TheConstants.{CORE}
use Rattle.tty8.specs.Teletype.{is_requesting}
use Rattle.cpu8.specs.State.{State, place, next_cell}
use Rattle.cpu8.specs.Decoding.{is_group_1, is_group_2, has_hlt}
use Rattle.cpu8.specs.Operate.{is_group1_unassigned}
use Rattle.cpu8.specs.Step.{after_instruction}
use Rattle.cpu8.specs.Go.{after, answer, is_break}
use Rattle.cpu8.specs.declared.outcomes.Stepped.TheVariants.{Ran}

-- the machine runs, no interrupt request can be granted, and a quick printer has no character to end
abbrev pub is_quiet : Bool → State → Bool
is_quiet quick s = s.running && (not (s.interrupts_on && is_requesting s.teletype) && not (quick && s.teletype.busy))

-- no field waits for a jump, and no interrupt for an instruction
abbrev pub is_settled : State → Bool
is_settled s = nat_eq s.instruction_buffer s.instruction_field && (not s.waiting && not s.held_off)

-- what decides whether the machine is quiet stays, and the field of instructions does where none waits for a jump
pub record Stays (old new : State) : Type 0 where
  pub running : new.running ≡ old.running
  pub interrupts_on : new.interrupts_on ≡ old.interrupts_on
  pub teletype : new.teletype ≡ old.teletype
  pub buffer : new.instruction_buffer ≡ old.instruction_buffer
  pub field : old.instruction_buffer ≡ old.instruction_field → new.instruction_field ≡ old.instruction_field

-- an instruction of this word is done, prints nothing and goes on
pub record Does (old : State) (w : ℕ) (new : State) : Type 0 where
  pub state : new ≡ (after_instruction old w).0
  pub answer : Ran None ≡ (after_instruction old w).1
  pub stays : Stays old new

-- that, or nothing
abbrev pub DoesOrNot : State → ℕ → Bool → State → Type 0
DoesOrNot old w true new = Does old w new
DoesOrNot old w false new = new ≡ old

-- an instruction of this word is done, prints nothing and goes on, and leaves a quiet machine quiet
pub record Goes (old : State) (w : ℕ) (new : State) : Type 0 where
  pub state : new ≡ (after_instruction old w).0
  pub answer : Ran None ≡ (after_instruction old w).1
  pub quiet : (quick : Bool) → is_quiet quick old ≡ true → is_quiet quick new ≡ true

-- that, or nothing
abbrev pub GoesOrNot : State → ℕ → Bool → State → Type 0
GoesOrNot old w true new = Goes old w new
GoesOrNot old w false new = new ≡ old

-- the latter where IOTs are among the steps, else the former
abbrev pub MakesOrNot : Bool → State → ℕ → Bool → State → Type 0
MakesOrNot true old w done new = GoesOrNot old w done new
MakesOrNot false old w done new = DoesOrNot old w done new

-- no cell of this field has a break
abbrev pub IsUnbroken : List Bool → ℕ → Type 0
IsUnbroken breaks field = (address : ℕ) → address < 0o10000 → is_break breaks (place field address) ≡ false

-- fields that are given as having no break have none
abbrev pub AreUnbroken : List Bool → List Bool → Type 0
AreUnbroken breaks fields = (field : ℕ) → slice_index_or fields field false ≡ true → IsUnbroken breaks field

-- where breaks are minded they say for each cell whether it has one; else this field has none
abbrev pub AreMinded : List Bool → ℕ → Bool → Type 0
AreMinded breaks field true = CORE ≤ length breaks
AreMinded breaks field false = IsUnbroken breaks field

-- whether an operate instruction goes on
abbrev pub operates_on : ℕ → Bool
operates_on w = if is_group_1 w then not (is_group1_unassigned w) else (is_group_2 w && not (has_hlt w))

-- Each of the first k steps does an instruction that prints nothing and goes on, and no break is ahead between them.
pub record IsQuietStep (quick : Bool) (breaks : List Bool) (s : State) (m : ℕ) : Type 0 where
  pub answer : answer quick m s ≡ Ran None
  pub ahead : 0 < m → is_break breaks (next_cell (after quick m s)) ≡ false

abbrev pub AreQuiet : Bool → List Bool → State → ℕ → Type 0
AreQuiet quick breaks s k = (m : ℕ) → m < k → IsQuietStep quick breaks s m
