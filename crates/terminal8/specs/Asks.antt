-- When a program asks for a key (Small Computer Handbook; how long it may wait with interrupts on is this project's profile).
-- The printer is quick: it ends its character before the next step.
use Rattle.std.specs.Prelude.{ℕ, ◌+◌, ◌/◌, ◌%◌, Bool, ◌&&◌, ◌||◌, not, nat_eq, nat_le, slice_index}
use Rattle.cpu8.specs.State.{State, place, printer_done, grants_interrupt}
use Rattle.cpu8.specs.Reference.{after_fetch, direct_address}
use Rattle.cpu8.specs.Step.{next_word}
pub use Rattle.cpu8.specs.Unasked.{is_ksf}

-- the next step is this instruction, and no interrupt
abbrev pub is_undisturbed : State → Bool
is_undisturbed s = s.running && not (grants_interrupt (printer_done s))

-- the next step asks whether a key was struck
abbrev pub tests_keyboard : State → Bool
tests_keyboard s = is_ksf (next_word s) && is_undisturbed s

-- A program asks for a key where none is in the keyboard's buffer unread, and one of these holds. The next step is a KSF; or
-- interrupts are on, and the steps since it last asked take a tenth of a second or more.
abbrev pub asks_for_key : ℕ → State → Bool
asks_for_key since s = not s.teletype.keyboard_flag && (tests_keyboard s || (s.interrupts_on && nat_le 30000 since))

-- ## Waiting for ever

-- a direct JMP, 5000 to 5377
abbrev pub is_direct_jmp : ℕ → Bool
is_direct_jmp word = nat_eq (word / 0o400) 0o12

-- the word after that of the next instruction
abbrev pub word_after : State → ℕ
word_after s = slice_index s.core (place s.instruction_field ((s.pc + 1) % 0o10000))

-- there is a JMP back to the next instruction
abbrev pub jumps_back : State → Bool
jumps_back s = is_direct_jmp (word_after s) && nat_eq (direct_address (after_fetch s) (word_after s)) s.pc

-- nothing changes by itself: the printer is idle, no field waits for a jump, no interrupt for an instruction, and none is
-- requested where interrupts are on
abbrev pub is_at_rest : State → Bool
is_at_rest s =
    not s.teletype.busy && (not s.waiting && (not s.held_off
    && (nat_eq s.instruction_buffer s.instruction_field && not (s.interrupts_on && s.teletype.printer_flag))))

-- The machine waits for a key in KSF (6031) and JMP .-1, with the keyboard flag clear and nothing else to come.
abbrev pub waits_for_key : State → Bool
waits_for_key s =
    s.running && (not s.teletype.keyboard_flag && (nat_eq (next_word s) 0o6031 && (jumps_back s && is_at_rest s)))
