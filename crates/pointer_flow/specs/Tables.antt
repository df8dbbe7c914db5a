-- What the tables of a flow hold.
use Rattle.std.specs.Prelude.{◌≡◌, ◌↔◌, ℕ, ◌+◌, ◌*◌, ◌/◌, ◌%◌, ◌<◌, min, Bool, true, false, nat_eq, is_some, List, length, Option, Some, None, slice_index_or}
use Rattle.std.specs.Int.{bit_at}
use Rattle.word12.specs.declared.sizes.TheConstants.{CORE}
use Rattle.flow8.specs.Flow.{word_in}
use Rattle.pointer_flow.specs.States.{IsState}
use Rattle.pointer_flow.specs.Programs.{Program}
use Rattle.pointer_flow.specs.Calls.{is_handler_cell}
use Rattle.pointer_flow.specs.Returns.{argument_count, increment_count}
use Rattle.pointer_flow.specs.Flow.{IsInFlow, IsKnown}
use Rattle.pointer_flow.specs.Questions.{AnswersWriter, IsReturnCell}
use Rattle.pointer_flow.specs.declared.states.Buffer.{Buffer}
use Rattle.pointer_flow.specs.declared.states.Buffer.TheVariants.{Own, Number, Unknown}
use Rattle.pointer_flow.specs.declared.states.State.{State}
use Rattle.pointer_flow.specs.declared.states.TheConstants.{STATES}

-- ## The number of a state

abbrev pub buffer_number : Buffer → ℕ
buffer_number Own = 8
buffer_number (Number field) = field
buffer_number Unknown = 9

abbrev pub data_number : Option ℕ → ℕ
data_number None = 8
data_number (Some field) = field

abbrev pub state_number : State → ℕ
state_number s = 90 * s.cell + 9 * buffer_number s.buffer + data_number s.data_field

-- ## Tables of states: a bit for each, 64 in a number

abbrev pub is_bit_set : List ℕ → ℕ → Bool
is_bit_set bits number = nat_eq (bit_at (slice_index_or bits (number / 64) 0) (number % 64)) 1

abbrev pub IsMarked : List ℕ → State → Type 0
IsMarked bits s = is_bit_set bits (state_number s) ≡ true

-- each bit has a place
abbrev pub IsTable : List ℕ → Type 0
IsTable bits = 64 * length bits ≡ STATES

-- a table has just the states that are so
pub record IsSetOf (bits : List ℕ) (Is : State → Type 0) : Type 0 where
  pub size : IsTable bits
  pub states : (s : State) → IsState s → IsMarked bits s ↔ Is s

-- ## What the words of a program show before any of it is reached

-- for each cell how many words move a return on, and take arguments, 4 standing for more; and whether it holds the entry of a handler
pub record AreFacts (p : Program) (words : List (Option ℕ)) (data_flags : List Bool) (increments arguments : List ℕ) (handlers : List Bool) : Type 0 where
  pub size : length words ≡ CORE
  pub data_size : length data_flags ≡ CORE
  pub increments_size : length increments ≡ CORE
  pub arguments_size : length arguments ≡ CORE
  pub handlers_size : length handlers ≡ CORE
  pub words_are : p.words ≡ word_in words
  pub data_are : (cell : ℕ) → p.is_data cell ≡ slice_index_or data_flags cell false
  pub increments_are : (cell : ℕ) → cell < CORE → slice_index_or increments cell 0 ≡ min 4 (increment_count p.words cell)
  pub arguments_are : (cell : ℕ) → cell < CORE → slice_index_or arguments cell 0 ≡ min 4 (argument_count p.words cell)
  pub handlers_are : (cell : ℕ) → cell < CORE → slice_index_or handlers cell false ≡ is_handler_cell p cell

-- a table gives each pointer the word with which it is so
pub record GivesPointers (pointers : List (Option ℕ)) (Gives : ℕ → ℕ → Type 0) : Type 0 where
  pub size : length pointers ≡ CORE
  pub words : (pointer word : ℕ) → (word_in pointers pointer ≡ Some word) ↔ Gives pointer word

-- ## The flow

-- a flow as contracts see it
pub record FlowTables : Type 0 where
  -- the words of the program, and flags of its data
  pub words : List (Option ℕ)
  pub data_flags : List Bool
  -- what the words show of subroutines and handlers
  pub increments : List ℕ
  pub arguments : List ℕ
  pub handlers : List Bool
  -- the bits of the states
  pub reached : List ℕ
  -- the words of known pointers, and the lowest cells that write cells
  pub known : List (Option ℕ)
  pub writers : List (Option ℕ)
  -- the lowest cells that store a return in cells
  pub returns : List (Option ℕ)

-- These are the tables of a program's flow. What a user may rely on is what the questions answer.
pub record IsFlowOf (p : Program) (flow : FlowTables) : Type 0 where
  pub facts : AreFacts p flow.words flow.data_flags flow.increments flow.arguments flow.handlers
  pub states : IsSetOf flow.reached (IsInFlow p)
  pub known : GivesPointers flow.known (IsKnown p)
  pub writers_size : length flow.writers ≡ CORE
  pub writers : (cell : ℕ) → cell < CORE → AnswersWriter p cell (word_in flow.writers cell)
  pub returns : (cell : ℕ) → cell < CORE → (is_some (word_in flow.returns cell) ≡ true) ↔ IsReturnCell p cell
