-- The steps of marking states, for private clauses.
use Rattle.std.specs.Prelude.{◌≡◌, ◌⊎◌, ℕ, IfSome, ◌+◌, ◌*◌, ◌/◌, ◌%◌, ◌<◌, ◌≤◌, min, Bool, true, false, ◌&&◌, not, if◌then◌else◌, nat_eq, nat_lt, is_some, List, [], ◌∷◌, length, Option, Some, None, slice_index, slice_index_or, slice_set}
use Rattle.word12.specs.declared.sizes.TheConstants.{CORE, FIELD, PAGE}
use Rattle.flow8.specs.Exits.{referred_cell, cell_after}
use Rattle.flow8.specs.Flow.{IsAmong, word_in}
use Rattle.pointer_flow.specs.States.{IsOneOf, IsState, start_state}
use Rattle.source_notes.specs.Referrers.{is_reference}
use Rattle.pointer_flow.specs.Programs.{Program, cells_from, count_below, is_auto_index}
use Rattle.pointer_flow.specs.Returns.{is_increment, is_reference_through, names_first}
use Rattle.pointer_flow.specs.Next.{next_states, return_states, with_state}
use Rattle.pointer_flow.specs.Writes.{stored_cells, written_cells}
use Rattle.pointer_flow.specs.Flow.{Reaches}
use Rattle.pointer_flow.specs.Questions.{rank, stores_return}
use Rattle.pointer_flow.specs.Tables.{IsMarked, IsSetOf, is_bit_set, state_number}
use Rattle.pointer_flow.specs.declared.calls.Call.{Call}
use Rattle.pointer_flow.specs.declared.calls.Call.TheVariants.{Usr}
use Rattle.pointer_flow.specs.declared.next_states.NextStates.{NextStates}
use Rattle.pointer_flow.specs.declared.cell_states.Settled.{Settled}
use Rattle.pointer_flow.specs.declared.cell_states.Settled.TheVariants.{NoState, Field, Several}
use Rattle.pointer_flow.specs.declared.states.Buffer.{Buffer}
use Rattle.pointer_flow.specs.declared.states.Buffer.TheVariants.{Own, Number, Unknown}
use Rattle.pointer_flow.specs.declared.states.State.{State}
use Rattle.pointer_flow.specs.declared.writes.Written.{Written}
use Rattle.pointer_flow.specs.declared.writes.Written.TheVariants.{Nothing, One, InEachField, Behind}
use Rattle.pointer_flow.specs.declared.states.TheConstants.{STATES}

-- ## The states of a cell by their numbers

abbrev pub buffer_of : ℕ → Buffer
buffer_of number = if nat_eq number 8 then Own else if nat_eq number 9 then Unknown else Number number

abbrev pub data_of : ℕ → Option ℕ
data_of number = if nat_eq number 8 then None else Some number

abbrev pub state_at : ℕ → ℕ → State
state_at cell number = record { cell = cell; buffer = buffer_of (number / 9); data_field = data_of (number % 9) }

-- ## Bits

-- no bit is set
abbrev pub AreUnmarked : List ℕ → Type 0
AreUnmarked bits = (number : ℕ) → is_bit_set bits number ≡ true → ⊥

-- how many states are not marked
abbrev pub count_of_unmarked : List ℕ → ℕ
count_of_unmarked bits = count_below (λ number. not (is_bit_set bits number)) STATES

-- ## Marking

-- an instruction may stand in a cell, by the lists of a program
abbrev pub is_open_in : List (Option ℕ) → List Bool → ℕ → Bool
is_open_in words data_flags cell = is_some (word_in words cell) && not (slice_index_or data_flags cell false)

-- These states are marked, except those in whose cell no instruction may stand; each that wasn't before waits.
pub record MarksStates (is_open : ℕ → Bool) (old new : List ℕ) (waiting waiting' states : List State) : Type 0 where
  pub size : length new ≡ length old
  pub marks : (s : State) → IsOneOf s states → is_open s.cell ≡ true → IsMarked new s
  pub kept : (s : State) → IsMarked old s → IsMarked new s
  pub only : (s : State) → IsState s → IsMarked new s → IsMarked old s ⊎ (IsOneOf s states × (is_open s.cell ≡ true))
  pub waits : (s : State) → IsState s → IsMarked new s → IsMarked old s ⊎ IsOneOf s waiting'
  pub still_waits : (s : State) → IsOneOf s waiting → IsOneOf s waiting'
  pub waiting_are : (s : State) → IsOneOf s waiting' → IsOneOf s waiting ⊎ (IsState s × IsMarked new s)
  pub sum : 2 * count_of_unmarked new + length waiting' ≤ 2 * count_of_unmarked old + length waiting

-- some states are marked, and of these something is known
pub record MarksSome (is_open : ℕ → Bool) (old new : List ℕ) (waiting waiting' : List State) (Are : List State → Type 0) : Type 0 where
  pub states : List State
  pub marks : MarksStates is_open old new waiting waiting' states
  pub are : Are states

-- what is followed and left out by lists

abbrev pub IsGivenIn : List (Option ℕ) → ℕ → ℕ → Type 0
IsGivenIn pointers pointer word = word_in pointers pointer ≡ Some word

abbrev pub IsFlaggedIn : List Bool → ℕ → Type 0
IsFlaggedIn flags cell = slice_index_or flags cell false ≡ true

-- a table has just the states that are reached by these lists
abbrev pub IsWalk : Program → List (Option ℕ) → List Bool → List ℕ → Type 0
IsWalk p pointers no_skip_cells bits = IsSetOf bits (Reaches p (IsGivenIn pointers) (IsFlaggedIn no_skip_cells))

abbrev pub start_states : List ℕ → List State
start_states [] = []
start_states (cell ∷ others) = start_state cell ∷ start_states others

-- the flags after that of a cell is set, if there is one
abbrev pub with_flag : List Bool → Option ℕ → List Bool
with_flag flags None = flags
with_flag flags (Some cell) = slice_set flags cell true

-- ## Counts of references

-- a cell moves the return on of a subroutine that begins with another
abbrev pub moves_first : (ℕ → Option ℕ) → ℕ → ℕ → Bool
moves_first words first cell = names_first words first cell && is_increment (words cell)

-- it takes a word through that one
abbrev pub takes_by_first : (ℕ → Option ℕ) → ℕ → ℕ → Bool
takes_by_first words first cell = names_first words first cell && (is_reference_through (words cell) && not (is_auto_index first))

-- the cell that a word in a cell names, where that is one of its page
abbrev pub cell_in_page : ℕ → ℕ → Option ℕ
cell_in_page cell word =
    if is_reference (cell % FIELD) word && nat_eq (referred_cell cell word / PAGE) (cell / PAGE) then Some (referred_cell cell word) else None

-- counts after one more of a cell, if it counts; they are kept up to 4
abbrev pub counts_after : List ℕ → ℕ → Bool → List ℕ
counts_after counts cell false = counts
counts_after counts cell true = slice_set counts cell (min 4 (slice_index counts cell + 1))

-- a count that is kept up to 4 is one more where something is so
abbrev pub CountsOne : Bool → ℕ → ℕ → Type 0
CountsOne true old new = new ≡ min 4 (old + 1)
CountsOne false old new = new ≡ old

-- a function of the USR as its call
abbrev pub as_usr_call : Option ℕ → Option Call
as_usr_call None = None
as_usr_call (Some function) = Some (Usr function)

-- ## Next states as they are found: two at most, and those after returns

abbrev pub state_list : State → NextStates → List State
state_list s next = with_state next.first (with_state next.second (return_states s.data_field (cells_from s.cell next.first_return next.returns)))

-- cells and fields that there are, and returns in one field
pub record AreNext (next : NextStates) : Type 0 where
  pub first : IfSome next.first (λ s. IsState s)
  pub second : IfSome next.second (λ s. IsState s)
  pub returns : next.first_return + next.returns < 0o10000

-- the word that a list gives the pointer of an instruction
abbrev pub pointer_word : List (Option ℕ) → State → ℕ → Option ℕ
pointer_word pointers s word = word_in pointers (referred_cell s.cell word)

-- whether an ISZ skips
abbrev pub skips_into : List Bool → State → Bool
skips_into no_skip_cells s = not (slice_index_or no_skip_cells (cell_after 2 s.cell) false)

abbrev pub states_of_word : Program → List (Option ℕ) → List Bool → State → Option ℕ → List State
states_of_word p pointers no_skip_cells s None = []
states_of_word p pointers no_skip_cells s (Some word) = next_states p s word (pointer_word pointers s word) (skips_into no_skip_cells s)

-- the next states of a state, where these pointers are followed and no ISZ skips into these cells
abbrev pub states_after : Program → List (Option ℕ) → List Bool → State → List State
states_after p pointers no_skip_cells s = states_of_word p pointers no_skip_cells s (p.words s.cell)

-- ## Cells that are written, as they are found

abbrev pub listed_cells : State → Written → List ℕ
listed_cells s Nothing = []
listed_cells s (One cell) = cell ∷ []
listed_cells s (InEachField address) = stored_cells None (Some address)
listed_cells s (Behind first count) = cells_from s.cell first count

-- words after an instruction that are counted within its field
abbrev pub IsInReach : Written → Type 0
IsInReach Nothing = Unit {0}
IsInReach (One cell) = Unit {0}
IsInReach (InEachField address) = Unit {0}
IsInReach (Behind first count) = first + count < 0o10000

-- A table has a cell as the writer of the cells that are so, but where it had a lower one.
pub record NotesCells (old new : List (Option ℕ)) (cell : ℕ) (Is : ℕ → Type 0) : Type 0 where
  pub size : length new ≡ length old
  pub noted : (other : ℕ) → other < length old → Is other → word_in old other ≡ None → word_in new other ≡ Some cell
  pub kept : (other writer : ℕ) → word_in old other ≡ Some writer → word_in new other ≡ Some writer
  pub by : (other writer : ℕ) → word_in old other ≡ None → word_in new other ≡ Some writer → (writer ≡ cell) × Is other

-- a marked state writes another cell
abbrev pub IsStateWriter : Program → List (Option ℕ) → List ℕ → State → ℕ → ℕ → Type 0
IsStateWriter p pointers reached s word other = IsMarked reached s × IsAmong other (written_cells p s word (pointer_word pointers s word))

-- a cell writes another by a marked state
pub record IsCellWriter (p : Program) (pointers : List (Option ℕ)) (reached : List ℕ) (other cell : ℕ) : Type 0 where
  pub word : ℕ
  pub given : p.words cell ≡ Some word
  pub s : State
  pub state : IsState s
  pub at : s.cell ≡ cell
  pub writer : IsStateWriter p pointers reached s word other

-- the same by the cell
abbrev pub IsCellWriterOf : Program → List (Option ℕ) → List ℕ → ℕ → ℕ → Type 0
IsCellWriterOf p pointers reached cell other = IsCellWriter p pointers reached other cell

-- the lowest cell that writes another, or none where no cell does
abbrev pub IsLowestWriter : Program → List (Option ℕ) → List ℕ → ℕ → Option ℕ → Type 0
IsLowestWriter p pointers reached other None = (cell : ℕ) → IsCellWriter p pointers reached other cell → ⊥
IsLowestWriter p pointers reached other (Some cell) =
    IsCellWriter p pointers reached other cell × ((before : ℕ) → IsCellWriter p pointers reached other before → cell ≤ before)

-- a marked state stores a return
abbrev pub stores_return_at : Program → State → Option ℕ → Bool
stores_return_at p s None = false
stores_return_at p s (Some word) = stores_return p s word

abbrev pub is_return_state : Program → List ℕ → State → Bool
is_return_state p reached s = is_bit_set reached (state_number s) && stores_return_at p s (p.words s.cell)

abbrev pub IsReturnState : Program → List ℕ → State → Type 0
IsReturnState p reached s = is_return_state p reached s ≡ true

-- a table has the lowest cell that writes each
pub record AreWriters (p : Program) (pointers : List (Option ℕ)) (reached : List ℕ) (writers : List (Option ℕ)) : Type 0 where
  pub size : length writers ≡ CORE
  pub cells : (other : ℕ) → other < CORE → IsLowestWriter p pointers reached other (word_in writers other)

-- ## The tables of a flow

-- a word that isn't 0, of a cell without a writer
abbrev pub unwritten_word : Option ℕ → Option ℕ → Option ℕ
unwritten_word None writer = None
unwritten_word (Some word) None = if nat_eq word 0 then None else Some word
unwritten_word (Some word) (Some writer) = None

-- a cell has the word 0, and a writer
abbrev pub is_written_zero : Option ℕ → Option ℕ → Bool
is_written_zero None writer = false
is_written_zero (Some word) writer = nat_eq word 0 && is_some writer

-- ## What the states of a cell have in common

-- what some states and one more have
abbrev pub with_field : Settled → Option ℕ → Settled
with_field NoState None = Several
with_field (Field other) None = Several
with_field Several None = Several
with_field NoState (Some field) = Field field
with_field (Field other) (Some field) = if nat_eq other field then Field field else Several
with_field Several (Some field) = Several

-- with one state more, if it is reached
abbrev pub with_field_if : Settled → Bool → Option ℕ → Settled
with_field_if settled true field = with_field settled field
with_field_if settled false field = settled

abbrev pub settled_field : Settled → Option ℕ
settled_field NoState = None
settled_field (Field field) = Some field
settled_field Several = None

-- the call that a word is in a state, where that is marked
abbrev pub call_in : List ℕ → (State → ℕ → Option Call) → State → ℕ → Option Call
call_in reached call_of s word = if is_bit_set reached (state_number s) then call_of s word else None

-- of two calls the one that counts before the other
abbrev pub earlier_call : Option Call → Option Call → Option Call
earlier_call None other = other
earlier_call (Some call) None = Some call
earlier_call (Some call) (Some other) = if nat_lt (rank other) (rank call) then Some other else Some call
