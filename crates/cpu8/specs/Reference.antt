-- The instructions that refer to memory: AND, TAD, ISZ, DCA, JMS, JMP (Small Computer Handbook). PC is the address of
-- the instruction, w its word.
use Rattle.std.specs.Prelude.{ℕ, ◌+◌, ◌*◌, ◌/◌, ◌%◌, Bool, false, ◌&&◌, nat_eq, nat_le, if◌then◌else◌, bit_and, List, slice_index, slice_set}
use Rattle.word12.specs.declared.sizes.TheConstants.{PAGE}
use Rattle.cpu8.specs.State.{State, place}
use Rattle.cpu8.specs.Decoding.{is_indirect, is_in_current_page, offset_of}

-- ## Addresses

-- the direct address: the offset in the page of the instruction, or in page zero
abbrev pub direct_address : State → ℕ → ℕ
direct_address s w = if is_in_current_page w then s.pc / PAGE * PAGE + offset_of w else offset_of w

-- where the pointer of an indirect reference stands: at the direct address in the instruction field
abbrev pub pointer_place : State → ℕ → ℕ
pointer_place s w = place s.instruction_field (direct_address s w)

-- a pointer at 0010 to 0017 is an auto-index
abbrev pub is_auto_index : State → ℕ → Bool
is_auto_index s w = is_indirect w && (nat_le 8 (direct_address s w) && nat_le (direct_address s w) 15)

-- core once the pointer was read: an auto-index is first made one more, and kept so
abbrev pub core_with_index : State → ℕ → List ℕ
core_with_index s w =
    if is_auto_index s w then slice_set s.core (pointer_place s w) ((slice_index s.core (pointer_place s w) + 1) % 0o10000)
    else s.core

-- the effective address: the direct address, or the pointer's word there
abbrev pub effective_address : State → ℕ → ℕ
effective_address s w = if is_indirect w then slice_index (core_with_index s w) (pointer_place s w) else direct_address s w

-- where the operand of AND, TAD, ISZ and DCA stands: in the data field for an indirect reference, else in the
-- instruction field
abbrev pub operand_place : State → ℕ → ℕ
operand_place s w = place (if is_indirect w then s.data_field else s.instruction_field) (effective_address s w)

abbrev pub operand : State → ℕ → ℕ
operand s w = slice_index (core_with_index s w) (operand_place s w)

-- ## Rows

-- what every instruction does: PC is advanced by one, and the waiting of ION is over
abbrev pub after_fetch : State → State
after_fetch s = record s { pc = (s.pc + 1) % 0o10000; waiting = false }

-- and what every reference to memory does
abbrev pub after_reference : State → ℕ → State
after_reference s w = record (after_fetch s) { core = core_with_index s w }

abbrev pub and_row : State → ℕ → State
and_row s w = record (after_reference s w) { ac = bit_and s.ac (operand s w) }

-- a carry out of AC complements L
abbrev pub tad_row : State → ℕ → State
tad_row s w = record (after_reference s w) {
  ac = (s.ac + operand s w) % 0o10000;
  l = (s.l + (s.ac + operand s w) / 0o10000) % 2;
}

-- the operand, one more
abbrev pub next_operand : State → ℕ → ℕ
next_operand s w = (operand s w + 1) % 0o10000

-- the next instruction is skipped if the operand becomes 0
abbrev pub isz_row : State → ℕ → State
isz_row s w = record (after_reference s w) {
  core = slice_set (core_with_index s w) (operand_place s w) (next_operand s w);
  pc = (s.pc + (if nat_eq (next_operand s w) 0 then 2 else 1)) % 0o10000;
}

abbrev pub dca_row : State → ℕ → State
dca_row s w = record (after_reference s w) {
  core = slice_set (core_with_index s w) (operand_place s w) s.ac;
  ac = 0;
}

-- JMS and JMP go to the field of the instruction buffer, and end the holding off of interrupts
abbrev pub jmp_row : State → ℕ → State
jmp_row s w = record (after_reference s w) {
  pc = effective_address s w;
  instruction_field = s.instruction_buffer;
  held_off = false;
}

-- JMS stores PC at the effective address in the new field, and goes on after it
abbrev pub jms_row : State → ℕ → State
jms_row s w = record (jmp_row s w) {
  core = slice_set (core_with_index s w) (place s.instruction_buffer (effective_address s w)) ((s.pc + 1) % 0o10000);
  pc = (effective_address s w + 1) % 0o10000;
}
