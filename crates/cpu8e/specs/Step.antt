-- A step of the 8/E (Small Computer Handbook).
use Rattle.std.specs.Prelude.{ℕ, ◌/◌, ◌%◌, Bool, true, false, nat_eq, nat_le, if◌then◌else◌, None}
use Rattle.cpu8.specs.Step as Pdp8i
use Rattle.cpu8.specs.declared.outcomes.Stepped.{Stepped}
use Rattle.cpu8.specs.declared.outcomes.Stepped.TheVariants.{Stopped, Interrupted, Ran}
use Rattle.cpu8e.specs.State.{State8e, as_8i, grants_interrupt}
use Rattle.cpu8e.specs.Operate.{operate_row}
use Rattle.cpu8e.specs.Control.{control_row}
use Rattle.cpu8e.specs.Console.{keyboard_row, printer_row, nothing_row}
use Rattle.cpu8e.specs.Fields.{fields_row}

-- AND, TAD, ISZ and DCA, operations 0 to 3
abbrev pub is_reference : ℕ → Bool
is_reference w = nat_le (w / 0o1000) 3

-- JMS and JMP, operations 4 and 5
abbrev pub is_jump : ℕ → Bool
is_jump w = nat_le (w / 0o1000) 5

-- IOT, operation 6
abbrev pub is_transfer : ℕ → Bool
is_transfer w = nat_eq (w / 0o1000) 6

-- as on the 8/I, and the user flag becomes the user buffer
abbrev pub jump_row : State8e → ℕ → State8e × Stepped
jump_row s w =
    (record s { base = (Pdp8i.after_instruction s.base w).0; user_flag = s.user_buffer }, (Pdp8i.after_instruction s.base w).1)

-- the device of an IOT is bits 3 to 8 of the word: 00 the interrupts, 03 the keyboard, 04 the printer, 20 to 27 the memory
-- extension
abbrev pub device_row : State8e → ℕ → State8e × Stepped
device_row s w =
    if nat_eq (w / 0o10 % 0o100) 0 then (control_row s w, Ran None)
    else if nat_eq (w / 0o10 % 0o100) 3 then (keyboard_row s w, Ran None)
    else if nat_eq (w / 0o10 % 0o100) 4 then printer_row s w
    else if nat_eq (w / 0o100 % 8) 2 then (fields_row s w, Ran None)
    else (nothing_row s, Ran None)

-- in user mode no IOT is done, of any device: the user request is set instead
abbrev pub transfer_row : State8e → ℕ → State8e × Stepped
transfer_row s w = if s.user_flag then (record (nothing_row s) { user_request = true }, Ran None) else device_row s w

-- an instruction of this word, by the table
unfoldable pub after_instruction : State8e → ℕ → State8e × Stepped
after_instruction s w =
    if is_reference w then as_8i s (Pdp8i.after_instruction s.base w)
    else if is_jump w then jump_row s w
    else if is_transfer w then transfer_row s w
    else operate_row s w

-- An interrupt is as on the 8/I. The user flag is saved, and the processor leaves user mode.
abbrev pub after_interrupt : State8e → State8e
after_interrupt s = record s {
  base = Pdp8i.after_interrupt s.base;
  saved_user_flag = s.user_flag;
  user_flag = false;
  user_buffer = false;
}

-- the word of the next instruction
abbrev pub next_word : State8e → ℕ
next_word s = Pdp8i.next_word s.base

-- A step: nothing where the machine is stopped, else an interrupt where a request is granted, else the next instruction.
unfoldable pub step : State8e → State8e × Stepped
step s =
    if s.base.running then (if grants_interrupt s then (after_interrupt s, Interrupted) else after_instruction s (next_word s))
    else (s, Stopped)
