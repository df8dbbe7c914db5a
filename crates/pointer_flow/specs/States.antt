-- What a program is about to do: the instruction in a cell, with what is known of the fields (Small Computer Handbook, MC8 extended memory).
use Rattle.std.specs.Prelude.{◌≡◌, ◌⊎◌, ℕ, ◌/◌, ◌<◌, Option, Some, None, List, [], ◌∷◌}
use Rattle.word12.specs.declared.sizes.TheConstants.{CORE, FIELD}
use Rattle.pointer_flow.specs.declared.states.Buffer.{Buffer}
use Rattle.pointer_flow.specs.declared.states.Buffer.TheVariants.{Own, Number, Unknown}
use Rattle.pointer_flow.specs.declared.states.State.{State}

-- The field into which a JMP or a JMS goes. It is the cell's own where no CIF was met since the last jump, else that of the last CIF; after
-- RMF it isn't known.
abbrev pub jump_field : ℕ → Buffer → Option ℕ
jump_field cell Own = Some (cell / FIELD)
jump_field cell (Number field) = Some field
jump_field cell Unknown = None

-- as a machine starts at a cell: both fields are the cell's
abbrev pub start_state : ℕ → State
start_state cell = record { cell = cell; buffer = Own; data_field = Some (cell / FIELD) }

-- it is one of these
abbrev pub IsOneOf : State → List State → Type 0
IsOneOf s [] = ⊥
IsOneOf s (first ∷ others) = (s ≡ first) ⊎ IsOneOf s others

-- ## Cells and fields that there are

abbrev pub IsBuffer : Buffer → Type 0
IsBuffer Own = Unit {0}
IsBuffer (Number field) = field < 8
IsBuffer Unknown = Unit {0}

abbrev pub IsDataField : Option ℕ → Type 0
IsDataField None = Unit {0}
IsDataField (Some field) = field < 8

-- a cell of core, with fields 0 to 7
pub record IsState (s : State) : Type 0 where
  pub cell : s.cell < CORE
  pub buffer : IsBuffer s.buffer
  pub data_field : IsDataField s.data_field
