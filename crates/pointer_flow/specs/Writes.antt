-- The cells that an instruction may write, as far as its word and the pointers that are followed show (Small Computer Handbook). Other stores
-- through pointers are assumed to write nothing that matters.
use Rattle.std.specs.Prelude.{ℕ, ◌/◌, ◌%◌, Bool, ◌&&◌, nat_eq, nat_lt, if◌then◌else◌, List, [], ◌∷◌, Option, Some, None, option_to_list}
use Rattle.word12.specs.declared.sizes.TheConstants.{FIELD}
use Rattle.cpu8.specs.State.{place}
use Rattle.cpu8.specs.Decoding.{is_indirect}
use Rattle.flow8.specs.Exits.{referred_cell}
use Rattle.pointer_flow.specs.States.{jump_field}
use Rattle.pointer_flow.specs.Programs.{Program, is_auto_index, place_in}
use Rattle.pointer_flow.specs.Calls.{call_gets, call_of, form_at}
use Rattle.pointer_flow.specs.declared.calls.Call.{Call}
use Rattle.pointer_flow.specs.declared.states.State.{State}

-- a store through a pointer goes to the data field, or to any
abbrev pub stored_cells : Option ℕ → Option ℕ → List ℕ
stored_cells None None = []
stored_cells (Some field) None = []
stored_cells None (Some address) = place 0 address ∷ place 1 address ∷ place 2 address ∷ place 3 address ∷ place 4 address ∷ place 5 address
    ∷ place 6 address ∷ place 7 address ∷ []
stored_cells (Some field) (Some address) = place field address ∷ []

-- ISZ and DCA
abbrev pub store_writes : State → ℕ → Option ℕ → List ℕ
store_writes s word pointer = if is_indirect word then stored_cells s.data_field pointer else referred_cell s.cell word ∷ []

-- a JMS stores its return in the subroutine's first cell; a call writes the words that it gets
abbrev pub jms_writes_of : Program → State → ℕ → Option ℕ → Option Call → List ℕ
jms_writes_of p s word pointer None = option_to_list (place_in (jump_field s.cell s.buffer)
    (if is_indirect word then pointer else Some (referred_cell s.cell word % FIELD)))
jms_writes_of p s word pointer (Some call) = call_gets s.cell (form_at p.words s.cell call)

abbrev pub jms_writes : Program → State → ℕ → Option ℕ → List ℕ
jms_writes p s word pointer = jms_writes_of p s word pointer (call_of p s word)

-- a reference through an auto-index counts that up, and counts as writing nothing else
abbrev pub counts_up : State → ℕ → Bool
counts_up s word = nat_lt word 0o6000 && (is_indirect word && is_auto_index (referred_cell s.cell word))

-- The cells that an instruction of this word writes. The pointer's word stands where the pointer is followed. ION lets an interrupt store its
-- return in cell 0.
abbrev pub written_cells : Program → State → ℕ → Option ℕ → List ℕ
written_cells p s word pointer =
    if counts_up s word then referred_cell s.cell word ∷ []
    else if nat_eq (word / 0o1000) 2 then store_writes s word pointer
    else if nat_eq (word / 0o1000) 3 then store_writes s word pointer
    else if nat_eq (word / 0o1000) 4 then jms_writes p s word pointer
    else if nat_eq word 0o6001 then 0 ∷ []
    else []
