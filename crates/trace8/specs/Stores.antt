-- The cells whose words a step may change (Small Computer Handbook).
use Rattle.std.specs.Prelude.{ℕ, ◌/◌, ◌&&◌, if◌then◌else◌, Option, Some, None, List, [], ◌∷◌, nat_eq, nat_lt}
use Rattle.cpu8.specs.State.{State, place}
use Rattle.cpu8.specs.Reference.{effective_address, is_auto_index, operand_place, pointer_place}
use Rattle.cpu8.specs.declared.outcomes.Stepped.{Stepped}
use Rattle.cpu8.specs.declared.outcomes.Stepped.TheVariants.{Stopped, Interrupted, Ran, Halted, Unassigned}

-- the pointer of a memory reference, a word below 6000, that is an auto-index, and is made one more
abbrev pub pointer_cell : State → ℕ → Option ℕ
pointer_cell s w = if nat_lt w 0o6000 && is_auto_index s w then Some (pointer_place s w) else None

-- where ISZ (2) and DCA (3) store, and a JMS (4) its return address
abbrev pub stored_cell : State → ℕ → Option ℕ
stored_cell s w =
    if nat_eq (w / 0o1000) 2 then Some (operand_place s w)
    else (if nat_eq (w / 0o1000) 3 then Some (operand_place s w)
    else (if nat_eq (w / 0o1000) 4 then Some (place s.instruction_buffer (effective_address s w))
    else None))

-- a pointer and the cell after it, which are listed once where they are the same
abbrev pub cells_of : Option ℕ → Option ℕ → List ℕ
cells_of None None = []
cells_of None (Some stored) = stored ∷ []
cells_of (Some pointer) None = pointer ∷ []
cells_of (Some pointer) (Some stored) = if nat_eq pointer stored then stored ∷ [] else pointer ∷ stored ∷ []

-- the cells that the instruction of a word may change
abbrev pub instruction_cells : State → ℕ → List ℕ
instruction_cells s w = cells_of (pointer_cell s w) (stored_cell s w)

-- An interrupt stores PC in cell 0 of field 0; an instruction stores by its word.
abbrev pub changing_cells : State → ℕ → Stepped → List ℕ
changing_cells s w Interrupted = 0 ∷ []
changing_cells s w Stopped = []
changing_cells s w (Ran printed) = instruction_cells s w
changing_cells s w Halted = []
changing_cells s w (Unassigned word) = []
