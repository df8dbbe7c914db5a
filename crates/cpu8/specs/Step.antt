-- A step of the machine (Small Computer Handbook).
use Rattle.std.specs.Prelude.{ℕ, ◌+◌, ◌*◌, false, if◌then◌else◌, None, slice_index, slice_set}
use Rattle.cpu8.specs.State.{State, next_cell, grants_interrupt}
use Rattle.cpu8.specs.Decoding.{operation_of}
use Rattle.cpu8.specs.Reference.{and_row, tad_row, isz_row, dca_row, jms_row, jmp_row}
use Rattle.cpu8.specs.Operate.{operate_row}
use Rattle.cpu8.specs.Transfer.{transfer_row}
use Rattle.cpu8.specs.declared.decoding.Operation.{Operation}
use Rattle.cpu8.specs.declared.decoding.Operation.TheVariants.{And, Tad, Isz, Dca, Jms, Jmp, Iot, Opr}
use Rattle.cpu8.specs.declared.outcomes.Stepped.{Stepped}
use Rattle.cpu8.specs.declared.outcomes.Stepped.TheVariants.{Stopped, Interrupted, Ran}

-- the row of the instruction table, by the operation of the word
abbrev pub row : Operation → State → ℕ → State × Stepped
row And s w = (and_row s w, Ran None)
row Tad s w = (tad_row s w, Ran None)
row Isz s w = (isz_row s w, Ran None)
row Dca s w = (dca_row s w, Ran None)
row Jms s w = (jms_row s w, Ran None)
row Jmp s w = (jmp_row s w, Ran None)
row Iot s w = transfer_row s w
row Opr s w = operate_row s w

-- an instruction of this word
unfoldable pub after_instruction : State → ℕ → State × Stepped
after_instruction s w = row (operation_of w) s w

-- An interrupt: PC is stored in cell 0 of field 0 and becomes 1, interrupts go off, the fields are saved and become 0.
abbrev pub after_interrupt : State → State
after_interrupt s = record s {
  core = slice_set s.core 0 s.pc;
  pc = 1;
  interrupts_on = false;
  save_field = 8 * s.instruction_field + s.data_field;
  instruction_field = 0;
  instruction_buffer = 0;
  data_field = 0;
}

-- the word of the next instruction
abbrev pub next_word : State → ℕ
next_word s = slice_index s.core (next_cell s)

-- A step: nothing where the machine is stopped, else an interrupt where a request is granted, else the next instruction.
unfoldable pub step : State → State × Stepped
step s =
    if s.running then (if grants_interrupt s then (after_interrupt s, Interrupted) else after_instruction s (next_word s))
    else (s, Stopped)
