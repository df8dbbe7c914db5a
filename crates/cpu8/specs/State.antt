-- The state of a PDP-8/I with MC8 extended memory and a Teletype (Small Computer Handbook).
use Rattle.std.specs.Prelude.{ℕ, ◌+◌, ◌*◌, ◌/◌, ◌%◌, Bool, true, false, ◌&&◌, not, List, slice_set}
use Rattle.word12.specs.declared.sizes.TheConstants.{FIELD}
use Rattle.tty8.specs.Teletype.{TeletypeState, idle, with_flags_clear, with_key, with_character_ended, is_requesting}

pub record State : Type 0 where
  -- the words of core, each at the number of its cell
  pub core : List ℕ
  -- the link, 0 or 1
  pub l : ℕ
  -- the accumulator
  pub ac : ℕ
  -- the program counter
  pub pc : ℕ
  -- the field of instructions, and of the direct references to memory
  pub instruction_field : ℕ
  -- the instruction field from the next JMP or JMS on
  pub instruction_buffer : ℕ
  -- the field of the operands of indirect references
  pub data_field : ℕ
  -- the fields at the last interrupt: 8 times the instruction field, plus the data field
  pub save_field : ℕ
  -- the switch register
  pub switches : ℕ
  pub running : Bool
  pub interrupts_on : Bool
  -- ION was the last instruction: interrupts wait for one more
  pub waiting : Bool
  -- CIF or RMF was given: interrupts are held off until the next JMP or JMS
  pub held_off : Bool
  pub teletype : TeletypeState

-- the number of the cell of an address in a field
abbrev pub place : ℕ → ℕ → ℕ
place field address = FIELD * field + address

-- the cell of the next instruction
abbrev pub next_cell : State → ℕ
next_cell s = place s.instruction_field s.pc

-- the state with another core
abbrev pub with_core : State → List ℕ → State
with_core s core = record s { core = core }

-- ## What the console and the Teletype do

-- a new machine with this core is stopped, and all its registers and flags are 0
abbrev pub new_machine : List ℕ → State
new_machine core = record {
  core = core;
  l = 0;
  ac = 0;
  pc = 0;
  instruction_field = 0;
  instruction_buffer = 0;
  data_field = 0;
  save_field = 0;
  switches = 0;
  running = false;
  interrupts_on = false;
  waiting = false;
  held_off = false;
  teletype = idle;
}

-- A start at a cell clears all but core, the keyboard's buffer and the switches; PC is the cell's address, and the three
-- fields are its field (this project's profile).
abbrev pub after_start : State → ℕ → State
after_start s cell = record (new_machine s.core) {
  pc = cell % FIELD;
  instruction_field = cell / FIELD;
  instruction_buffer = cell / FIELD;
  data_field = cell / FIELD;
  switches = s.switches;
  running = true;
  teletype = with_flags_clear s.teletype;
}

-- the switches are set to this word
abbrev pub switches_set : State → ℕ → State
switches_set s word = record s { switches = word }

-- a cell is given a word, as by DEP at the console
abbrev pub after_deposit : State → ℕ → ℕ → State
after_deposit s cell word = record s { core = slice_set s.core cell word }

-- a key of this character is struck
abbrev pub key_struck : State → ℕ → State
key_struck s character = record s { teletype = with_key s.teletype character }

-- the printer ends its character, if it has one
abbrev pub printer_done : State → State
printer_done s = record s { teletype = with_character_ended s.teletype }

-- Whether an interrupt request is granted, by which an interrupt comes in place of the next instruction. Interrupts are
-- on, the instruction after ION is done, no CIF or RMF waits for its jump, and a flag of the Teletype requests one.
abbrev pub grants_interrupt : State → Bool
grants_interrupt s = s.interrupts_on && (not s.waiting && (not s.held_off && is_requesting s.teletype))
