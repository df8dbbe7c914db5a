-- The Teletype, and the pulses of its instructions (Small Computer Handbook). The pulses of an instruction are the
-- bits of its last octal digit, done in the order 1, 2, 4.
use Rattle.std.specs.Prelude.{ℕ, ◌%◌, Bool, true, false, ◌&&◌, ◌||◌, if◌then◌else◌, bit_or, Option, Some, None}
use Rattle.tty8.specs.Bits.{has}

-- The state of the Teletype.
pub record TeletypeState : Type 0 where
  -- the character of the last key
  pub buffer : ℕ
  -- a key was struck
  pub keyboard_flag : Bool
  -- a character was printed
  pub printer_flag : Bool
  -- the printer is printing
  pub busy : Bool

-- no key struck, nothing printed
abbrev pub idle : TeletypeState
idle = record { buffer = 0; keyboard_flag = false; printer_flag = false; busy = false }

-- both flags cleared and the printer not busy; the keyboard's buffer stays
abbrev pub with_flags_clear : TeletypeState → TeletypeState
with_flags_clear t = record idle { buffer = t.buffer }

-- a key of this character is struck: the buffer takes it, also over one that was not read
abbrev pub with_key : TeletypeState → ℕ → TeletypeState
with_key t character = record t { buffer = character; keyboard_flag = true }

-- the printer ends its character, if it has one
abbrev pub with_character_ended : TeletypeState → TeletypeState
with_character_ended t = if t.busy then record t { printer_flag = true; busy = false } else t

-- either flag requests an interrupt
abbrev pub is_requesting : TeletypeState → Bool
is_requesting t = t.keyboard_flag || t.printer_flag

-- ## Keyboard, 6030 to 6037

-- pulse 1: skip if the keyboard flag is set
abbrev pub keyboard_skips : TeletypeState → ℕ → Bool
keyboard_skips t pulses = has pulses 1 && t.keyboard_flag

-- pulse 2: AC becomes 0
abbrev pub keyboard_cleared : ℕ → ℕ → ℕ
keyboard_cleared pulses ac = if has pulses 2 then 0 else ac

-- then pulse 4: the buffer is or'ed into AC bits 4 to 11
abbrev pub keyboard_ac : TeletypeState → ℕ → ℕ → ℕ
keyboard_ac t pulses ac =
    if has pulses 4 then bit_or (keyboard_cleared pulses ac) t.buffer else keyboard_cleared pulses ac

-- pulse 2: the keyboard flag becomes 0
abbrev pub keyboard_pulsed : TeletypeState → ℕ → TeletypeState
keyboard_pulsed t pulses = if has pulses 2 then record t { keyboard_flag = false } else t

-- ## Printer, 6040 to 6047

-- pulse 1: skip if the printer flag is set
abbrev pub printer_skips : TeletypeState → ℕ → Bool
printer_skips t pulses = has pulses 1 && t.printer_flag

-- pulse 4: AC bits 4 to 11 are printed at once, also where the printer is busy (this project's profile)
abbrev pub character_of_pulse : ℕ → ℕ → Option ℕ
character_of_pulse pulses ac = if has pulses 4 then Some (ac % 256) else None

-- pulse 2: the printer flag becomes 0
abbrev pub printer_cleared : TeletypeState → ℕ → TeletypeState
printer_cleared t pulses = if has pulses 2 then record t { printer_flag = false } else t

-- then pulse 4: the printer is busy
abbrev pub printer_pulsed : TeletypeState → ℕ → TeletypeState
printer_pulsed t pulses =
    if has pulses 4 then record (printer_cleared t pulses) { busy = true } else printer_cleared t pulses
