-- The state of a PDP-8/E with a KM8-E memory extension, a KL8-E console and no EAE (Small Computer Handbook).
use Rattle.std.specs.Prelude.{ℕ, ◌+◌, Bool, true, false, ◌&&◌, ◌||◌, not, if◌then◌else◌, List}
use Rattle.tty8.specs.Teletype.{idle, is_requesting}
use Rattle.cpu8.specs.State.{State}
use Rattle.cpu8.specs.State as Pdp8i
use Rattle.cpu8.specs.Transfer.{after_skip}
use Rattle.cpu8.specs.declared.outcomes.Stepped.{Stepped}

pub record State8e : Type 0 where
  -- the 8/I in it: all that an 8/I has too
  pub base : State
  -- the multiplier quotient
  pub mq : ℕ
  -- UF: the processor is in user mode
  pub user_flag : Bool
  -- UB: the user flag from the next JMP or JMS on
  pub user_buffer : Bool
  -- the user flag at the last interrupt, the high bit of the save field
  pub saved_user_flag : Bool
  -- a privileged instruction was met in user mode
  pub user_request : Bool
  -- KE: the flags of the console request interrupts
  pub console_enabled : Bool
  -- a device beside the console requests an interrupt
  pub device_request : Bool

-- an 8/E that has the state of this 8/I and this MQ, and else what a new 8/E has
abbrev pub as_8e : ℕ → State → State8e
as_8e mq base = record {
  base = base;
  mq = mq;
  user_flag = false;
  user_buffer = false;
  saved_user_flag = false;
  user_request = false;
  console_enabled = true;
  device_request = false;
}

-- the state with another 8/I's
abbrev pub with_base : State8e → State → State8e
with_base s base = record s { base = base }

-- what the 8/I does, done to the 8/I in it
abbrev pub as_8i : State8e → State × Stepped → State8e × Stepped
as_8i s done = (with_base s done.0, done.1)

-- the state with another core
abbrev pub with_core : State8e → List ℕ → State8e
with_core s core = with_base s (Pdp8i.with_core s.base core)

-- SF, the save field, of seven bits: 0100 times the user flag, 8 times the instruction field, and the data field
abbrev pub save_field : State8e → ℕ
save_field s = if s.saved_user_flag then 0o100 + s.base.save_field else s.base.save_field

-- the user request is set, or a device beside the console requests an interrupt
abbrev pub is_requested_by_others : State8e → Bool
is_requested_by_others s = s.user_request || s.device_request

-- an interrupt is requested: by these, or by a flag of the console where its flags are enabled
abbrev pub is_requested : State8e → Bool
is_requested s = is_requested_by_others s || (s.console_enabled && is_requesting s.base.teletype)

-- whether the request is granted, so that an interrupt comes in place of the next instruction
abbrev pub grants_interrupt : State8e → Bool
grants_interrupt s = s.base.interrupts_on && (not s.base.waiting && (not s.base.held_off && is_requested s))

-- ## What the operator and the Teletype do

abbrev pub new_machine : List ℕ → State8e
new_machine core = as_8e 0 (Pdp8i.new_machine core)

-- A start at a cell clears all but core, MQ and the switches; PC is the cell's address, and the three fields are its
-- field (this project's profile).
abbrev pub after_start : State8e → ℕ → State8e
after_start s cell = as_8e s.mq (record (Pdp8i.after_start s.base cell) { teletype = idle })

-- the switches are set to this word
abbrev pub switches_set : State8e → ℕ → State8e
switches_set s word = with_base s (Pdp8i.switches_set s.base word)

-- a key of this character is struck
abbrev pub key_struck : State8e → ℕ → State8e
key_struck s character = with_base s (Pdp8i.key_struck s.base character)

-- the printer ends its character, if it has one
abbrev pub printer_done : State8e → State8e
printer_done s = with_base s (Pdp8i.printer_done s.base)

-- ## What devices beside the console do

-- one of them requests an interrupt, or none does any more
abbrev pub with_request : State8e → Bool → State8e
with_request s flag = record s { device_request = flag }

-- An IOT of such a device is done. AC is what the device makes of it, and PC goes on by one, or by two where the device makes the
-- instruction skip.
abbrev pub device_answered : State8e → ℕ → Bool → State8e
device_answered s ac skips = with_base s (record (after_skip s.base skips) { ac = ac })
