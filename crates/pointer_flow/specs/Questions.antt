-- What may be asked of a flow, of one cell each (this project's reading of a program's flow).
use Rattle.std.specs.Prelude.{◌≡◌, ℕ, ◌/◌, ◌<◌, ◌≤◌, Bool, true, false, ◌&&◌, ◌||◌, not, nat_eq, nat_le, nat_lt, is_some, Option, Some, None}
use Rattle.cpu8.specs.State.{place}
use Rattle.cpu8.specs.Decoding.{is_indirect}
use Rattle.flow8.specs.Exits.{referred_cell}
use Rattle.pointer_flow.specs.States.{jump_field}
use Rattle.pointer_flow.specs.Programs.{Program, is_auto_index}
use Rattle.pointer_flow.specs.Calls.{call_of}
use Rattle.pointer_flow.specs.Returns.{called_address}
use Rattle.pointer_flow.specs.Flow.{IsCandidate, IsInFlow, IsKnown, IsWide, Writes}
use Rattle.pointer_flow.specs.declared.calls.Call.{Call}
use Rattle.pointer_flow.specs.declared.calls.Call.TheVariants.{Usr, SystemHandler, Handler}
use Rattle.pointer_flow.specs.declared.states.State.{State}

-- a state of the flow at a cell
pub record IsStateAt (p : Program) (cell : ℕ) (s : State) : Type 0 where
  pub at : s.cell ≡ cell
  pub reached : IsInFlow p s

-- the program reaches the instruction in a cell
abbrev pub IsInstruction : Program → ℕ → Type 0
IsInstruction p cell = (s : State) × IsStateAt p cell s

-- in all states of a cell, of which there is one, jumps go into this field
pub record HasJumpField (p : Program) (cell field : ℕ) : Type 0 where
  pub reached : IsInstruction p cell
  pub settled : (s : State) → IsStateAt p cell s → jump_field s.cell s.buffer ≡ Some field

-- and in all of them this is the data field
pub record HasDataField (p : Program) (cell field : ℕ) : Type 0 where
  pub reached : IsInstruction p cell
  pub settled : (s : State) → IsStateAt p cell s → s.data_field ≡ Some field

-- a USR's call counts before the system handler's, that before a handler's
abbrev pub rank : Call → ℕ
rank (Usr function) = 0
rank SystemHandler = 1
rank Handler = 2

-- a cell is this call in a state of the flow
pub record IsCallIn (p : Program) (cell : ℕ) (call : Call) : Type 0 where
  pub s : State
  pub state : IsStateAt p cell s
  pub word : ℕ
  pub given : p.words cell ≡ Some word
  pub is : call_of p s word ≡ Some call

-- a cell is this call, and no other that counts before it
pub record IsCall (p : Program) (cell : ℕ) (call : Call) : Type 0 where
  pub is : IsCallIn p cell call
  pub first : (other : Call) → IsCallIn p cell other → rank call ≤ rank other

-- the field that decides where a reference of this word through a pointer leads
abbrev pub HasField : Program → ℕ → Bool → ℕ → Type 0
HasField p cell true field = HasDataField p cell field
HasField p cell false field = HasJumpField p cell field

-- The cell to which an instruction leads through a known pointer. It is in the data field for AND, TAD, ISZ and DCA, and for JMS and JMP in the
-- field into which they jump. A call has none.
pub record IsTarget (p : Program) (cell target : ℕ) : Type 0 where
  pub word : ℕ
  pub given : p.words cell ≡ Some word
  pub is_reference : word < 0o6000
  pub indirect : is_indirect word ≡ true
  pub no_auto_index : is_auto_index (referred_cell cell word) ≡ false
  pub no_call : (call : Call) → IsCallIn p cell call → ⊥
  pub address : ℕ
  pub known : IsKnown p (referred_cell cell word) address
  pub field : ℕ
  pub settled : HasField p cell (nat_lt word 0o4000) field
  pub is : target ≡ place field address

-- JMS and JMP, 4000 to 5777
abbrev pub is_jump : ℕ → Bool
is_jump word = nat_le 0o4000 word && nat_lt word 0o6000

-- The cell to which a JMS or a JMP goes by the words that the tape gives, whatever the program stores in its pointer. For a JMS it is the first
-- cell of a subroutine. A call has none.
pub record IsJumpPlace (p : Program) (cell entered : ℕ) : Type 0 where
  pub word : ℕ
  pub given : p.words cell ≡ Some word
  pub jumps : is_jump word ≡ true
  pub no_call : (call : Call) → IsCallIn p cell call → ⊥
  pub address : ℕ
  pub called : called_address p.words cell word ≡ Some address
  pub field : ℕ
  pub settled : HasJumpField p cell field
  pub is : entered ≡ place field address

-- a state at a cell writes a pointer, of what is reached through the pointers that nothing direct writes
pub record IsWriter (p : Program) (pointer cell : ℕ) : Type 0 where
  pub s : State
  pub at : s.cell ≡ cell
  pub wide : IsWide p s
  pub writes : Writes p (IsCandidate p) s pointer

-- a word stores a return in a state: ION, after which an interrupt may, and a JMS that is no call
abbrev pub stores_return : Program → State → ℕ → Bool
stores_return p s word = nat_eq word 0o6001 || (nat_eq (word / 0o1000) 4 && not (is_some (call_of p s word)))

-- a state that does writes a cell
pub record IsReturnCell (p : Program) (pointer : ℕ) : Type 0 where
  pub s : State
  pub wide : IsWide p s
  pub writes : Writes p (IsCandidate p) s pointer
  pub returns : stores_return p s writes.word ≡ true

-- the lowest cell of a state that writes a pointer
pub record IsFirstWriter (p : Program) (pointer cell : ℕ) : Type 0 where
  pub is : IsWriter p pointer cell
  pub first : (other : ℕ) → IsWriter p pointer other → cell ≤ other

-- an answer has this property where some has, and is none where no one has
abbrev pub Answers : (ℕ → Type 0) → Option ℕ → Type 0
Answers Is None = (value : ℕ) → Is value → ⊥
Answers Is (Some value) = Is value

-- the lowest cell that writes a pointer, or none where no state writes it
abbrev pub AnswersWriter : Program → ℕ → Option ℕ → Type 0
AnswersWriter p pointer None = (cell : ℕ) → IsWriter p pointer cell → ⊥
AnswersWriter p pointer (Some cell) = IsFirstWriter p pointer cell

-- the call of a cell, or none where it is none in any state
abbrev pub AnswersCall : Program → ℕ → Option Call → Type 0
AnswersCall p cell None = (call : Call) → IsCallIn p cell call → ⊥
AnswersCall p cell (Some call) = IsCall p cell call
