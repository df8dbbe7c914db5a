-- The states in which a program goes on after an instruction (Small Computer Handbook, PDP-8/E Maintenance Manual for the skips of devices).
use Rattle.std.specs.Prelude.{ℕ, ◌+◌, ◌/◌, ◌%◌, Bool, ◌&&◌, ◌||◌, not, nat_eq, if◌then◌else◌, List, [], ◌∷◌, Option, Some, None}
use Rattle.word12.specs.declared.sizes.TheConstants.{FIELD}
use Rattle.tty8.specs.Bits.{has}
use Rattle.cpu8.specs.State.{place}
use Rattle.cpu8.specs.Decoding.{is_group_1, has_rar, has_ral, is_indirect, rotates_twice}
use Rattle.flow8.specs.Exits.{cell_after, operate_exits, referred_cell}
use Rattle.pointer_flow.specs.States.{jump_field}
use Rattle.pointer_flow.specs.Programs.{Program, is_auto_index, is_listed}
use Rattle.pointer_flow.specs.Calls.{call_of, call_returns, changes_fields, form_at}
use Rattle.pointer_flow.specs.Returns.{first_cell, returns_to}
use Rattle.pointer_flow.specs.declared.calls.Call.{Call}
use Rattle.pointer_flow.specs.declared.states.Buffer.TheVariants.{Own, Number, Unknown}
use Rattle.pointer_flow.specs.declared.states.State.{State}

-- a state, if there is one, before others
abbrev pub with_state : Option State → List State → List State
with_state None others = others
with_state (Some s) others = s ∷ others

-- ## Kinds of ends

-- the same fields at another cell
abbrev pub with_cell : State → ℕ → State
with_cell s cell = record { cell = cell; buffer = s.buffer; data_field = s.data_field }

abbrev pub goes_on : State → List State
goes_on s = with_cell s (cell_after 1 s.cell) ∷ []

abbrev pub may_skip : State → List State
may_skip s = with_cell s (cell_after 1 s.cell) ∷ with_cell s (cell_after 2 s.cell) ∷ []

-- the exits that words have in the flow without pointers
abbrev pub cell_state : State → Option ℕ → Option State
cell_state s None = None
cell_state s (Some cell) = Some (with_cell s cell)

abbrev pub at_exits : State → Option ℕ × Option ℕ → List State
at_exits s exits = with_state (cell_state s exits.0) (with_state (cell_state s exits.1) [])

-- after a jump the instruction buffer is the field of the cell
abbrev pub state_after_jump : Option ℕ → ℕ → State
state_after_jump data_field cell = record { cell = cell; buffer = Own; data_field = data_field }

abbrev pub jump_to : Option ℕ → ℕ → Option ℕ → Option State
jump_to None address data_field = None
jump_to (Some field) address data_field = Some (state_after_jump data_field (place field address))

-- where a subroutine or a call comes back to
abbrev pub return_states : Option ℕ → List ℕ → List State
return_states data_field [] = []
return_states data_field (cell ∷ others) = state_after_jump data_field cell ∷ return_states data_field others

-- ## Jumps. The pointer's word is given where the pointer is followed.

abbrev pub jump_through : State → Option ℕ → ℕ → Option State
jump_through s None more = None
jump_through s (Some address) more = jump_to (jump_field s.cell s.buffer) ((address + more) % FIELD) s.data_field

-- to the cell that the word names, so many words after it; not through an auto-index
abbrev pub jump_state : State → ℕ → Option ℕ → ℕ → Option State
jump_state s word pointer more =
    if is_indirect word then (if is_auto_index (referred_cell s.cell word) then None else jump_through s pointer more)
    else jump_to (jump_field s.cell s.buffer) ((referred_cell s.cell word % FIELD + more) % FIELD) s.data_field

abbrev pub jmp_states : State → ℕ → Option ℕ → List State
jmp_states s word pointer = with_state (jump_state s word pointer 0) []

-- a call goes on at its returns; another JMS goes into its subroutine, which comes back
abbrev pub jms_states_of : Program → State → ℕ → Option ℕ → Option Call → List State
jms_states_of p s word pointer None =
    with_state (jump_state s word pointer 1) (return_states s.data_field (returns_to p.words s.cell (first_cell p.words s word)))
jms_states_of p s word pointer (Some call) = return_states s.data_field (call_returns s.cell (form_at p.words s.cell call))

abbrev pub jms_states : Program → State → ℕ → Option ℕ → List State
jms_states p s word pointer = jms_states_of p s word pointer (call_of p s word)

-- ## Input and output

-- an interrupt, as ION allows it
abbrev pub interrupt_state : State
interrupt_state = record { cell = 1; buffer = Own; data_field = Some 0 }

-- CDF and CIF: the data field, the instruction buffer or both become N
abbrev pub with_fields : State → ℕ → State
with_fields s word = record {
  cell = cell_after 1 s.cell;
  buffer = if has word 2 then Number (word / 0o10 % 8) else s.buffer;
  data_field = if has word 1 then Some (word / 0o10 % 8) else s.data_field;
}

-- RMF: the fields before the last interrupt
abbrev pub with_fields_unknown : State → State
with_fields_unknown s = record { cell = cell_after 1 s.cell; buffer = Unknown; data_field = None }

-- The skips of the Teletype are 603 and 604 with pulse 1. The others are those of the interrupts, the reader, the punch, the disks DF32 and
-- RF08, the line printer, the disk RK8E and DECtape.
abbrev pub may_iot_skip : ℕ → Bool
may_iot_skip word = ((nat_eq (word / 0o10) 0o603 || nat_eq (word / 0o10) 0o604) && has word 1)
    || is_listed word (0o6000 ∷ 0o6003 ∷ 0o6006 ∷ 0o6011 ∷ 0o6021 ∷ 0o6621 ∷ 0o6622 ∷ 0o6661 ∷ 0o6741 ∷ 0o6771 ∷ [])

abbrev pub iot_states : State → ℕ → List State
iot_states s word =
    if nat_eq word 0o6001 then with_cell s (cell_after 1 s.cell) ∷ interrupt_state ∷ []
    else if changes_fields word then with_fields s word ∷ []
    else if nat_eq word 0o6244 then with_fields_unknown s ∷ []
    else if may_iot_skip word then may_skip s
    else goes_on s

-- ## Operates

-- BSW, of group 1: the two halves of AC change places; 0002 without a rotation
abbrev pub is_bsw : ℕ → Bool
is_bsw word = is_group_1 word && (rotates_twice word && not (has_rar word || has_ral word))

-- MQ alone, of group 3: 7401 with or without 0200, 0100 and 0020
abbrev pub is_mq : ℕ → Bool
is_mq word = not (is_group_1 word) && (has word 1 && not (has word 0o40 || (has word 0o10 || (has word 4 || has word 2))))

abbrev pub operate_states : State → ℕ → List State
operate_states s word = if is_bsw word || is_mq word then goes_on s else at_exits s (operate_exits s.cell word)

-- ## The table

-- an ISZ skips, but where that is left out
abbrev pub isz_states : State → Bool → List State
isz_states s skips = if skips then may_skip s else goes_on s

-- The next states after an instruction of this word. The pointer's word stands where the pointer is followed.
abbrev pub next_states : Program → State → ℕ → Option ℕ → Bool → List State
next_states p s word pointer skips =
    if nat_eq (word / 0o1000) 0 then goes_on s
    else if nat_eq (word / 0o1000) 1 then goes_on s
    else if nat_eq (word / 0o1000) 2 then isz_states s skips
    else if nat_eq (word / 0o1000) 3 then goes_on s
    else if nat_eq (word / 0o1000) 4 then jms_states p s word pointer
    else if nat_eq (word / 0o1000) 5 then jmp_states s word pointer
    else if nat_eq (word / 0o1000) 6 then iot_states s word
    else operate_states s word
