-- The instructions 6000 to 6007 of the 8/E, which control interrupts (Small Computer Handbook). What the handbook leaves open
-- is as in SIMH's PDP-8.
use Rattle.std.specs.Prelude.{ℕ, ◌+◌, ◌*◌, ◌/◌, ◌%◌, Bool, true, false, ◌||◌, nat_eq, if◌then◌else◌}
use Rattle.tty8.specs.Bits.{has}
use Rattle.tty8.specs.Teletype.{idle}
use Rattle.cpu8.specs.Decoding.{pulses_of}
use Rattle.cpu8.specs.Reference.{after_fetch}
use Rattle.cpu8.specs.Transfer.{after_skip, interrupts_row}
use Rattle.cpu8e.specs.State.{State8e, with_base, save_field, is_requested}

-- SKON (6000): skips where interrupts are on, and they go off
abbrev pub skon_row : State8e → State8e
skon_row s = with_base s (record (after_skip s.base s.base.interrupts_on) { interrupts_on = false })

-- SRQ (6003): skips where an interrupt is requested, interrupts on or off
abbrev pub srq_row : State8e → State8e
srq_row s = with_base s (after_skip s.base (is_requested s))

-- the flags: L in bit 0, whether an interrupt is requested in bit 2, whether interrupts are on in bit 4, the save field in bits
-- 5 to 11
abbrev pub flags_word : State8e → ℕ
flags_word s =
    0o4000 * s.base.l + (if is_requested s then 0o1000 else 0) + (if s.base.interrupts_on then 0o200 else 0) + save_field s

-- GTF (6004): AC becomes the flags
abbrev pub gtf_row : State8e → State8e
gtf_row s = with_base s (record (after_fetch s.base) { ac = flags_word s })

-- RTF (6005): L, user buffer, instruction buffer and data field are taken from AC. Interrupts go on without waiting, and are held
-- off.
abbrev pub rtf_row : State8e → State8e
rtf_row s = record s {
  base = record (after_fetch s.base) {
    l = s.base.ac / 0o4000;
    instruction_buffer = s.base.ac / 8 % 8;
    data_field = s.base.ac % 8;
    interrupts_on = true;
    held_off = true;
  };
  user_buffer = has s.base.ac 0o100;
}

-- CAF (6007): AC and L become 0, interrupts go off, the user request goes, and the console is as in a new machine
abbrev pub caf_row : State8e → State8e
caf_row s = record s {
  base = record (after_fetch s.base) { ac = 0; l = 0; interrupts_on = false; teletype = idle };
  user_request = false;
  console_enabled = true;
}

-- ION (6001), IOF (6002), and 6006, which does nothing, are as on the 8/I
abbrev pub is_control_of_8i : ℕ → Bool
is_control_of_8i w = nat_eq (pulses_of w) 1 || (nat_eq (pulses_of w) 2 || nat_eq (pulses_of w) 6)

abbrev pub control_row : State8e → ℕ → State8e
control_row s w =
    if is_control_of_8i w then with_base s (interrupts_row s.base w)
    else if nat_eq (pulses_of w) 0 then skon_row s
    else if nat_eq (pulses_of w) 3 then srq_row s
    else if nat_eq (pulses_of w) 4 then gtf_row s
    else if nat_eq (pulses_of w) 5 then rtf_row s
    else caf_row s
