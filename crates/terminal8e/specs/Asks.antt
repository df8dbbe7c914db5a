-- When a program of the 8/E waits for a key, and when it looks for one (Small Computer Handbook; how long it may look is this project's
-- profile). The printer is quick: it ends its character before the next step.
use Rattle.std.specs.Prelude.{ℕ, Bool, ◌&&◌, ◌||◌, not, nat_eq, nat_le}
use Rattle.cpu8e.specs.State.{State8e, printer_done, is_requested_by_others, grants_interrupt}
use Rattle.cpu8e.specs.Step.{next_word}
use Rattle.terminal8.specs.Asks.{jumps_back}

-- the next instruction is KSF, 6031
abbrev pub is_at_ksf : State8e → Bool
is_at_ksf s = nat_eq (next_word s) 0o6031

-- the next step is this instruction, and no interrupt
abbrev pub is_undisturbed : State8e → Bool
is_undisturbed s = s.base.running && not (grants_interrupt (printer_done s))

-- the next step asks whether a key was struck; in user mode no IOT is done
abbrev pub tests_keyboard : State8e → Bool
tests_keyboard s = is_at_ksf s && (not s.user_flag && is_undisturbed s)

-- it does, and there is a JMP back to it: the program waits
abbrev pub is_waiting : State8e → Bool
is_waiting s = tests_keyboard s && jumps_back s.base

-- a key would be seen: at any other KSF, or because the console may interrupt
abbrev pub may_see_key : State8e → Bool
may_see_key s = tests_keyboard s || (s.base.interrupts_on && s.console_enabled)

-- A program asks for a key where none is in the keyboard's buffer unread, and one of these holds. It waits; or it may see one, and the
-- steps since the last look take a tenth of a second or more.
abbrev pub asks_for_key : ℕ → State8e → Bool
asks_for_key since s = not s.base.teletype.keyboard_flag && (is_waiting s || (nat_le 30000 since && may_see_key s))

-- ## Waiting for ever

-- an interrupt other than the keyboard's is requested, or will be by itself
abbrev pub is_requested_without_key : State8e → Bool
is_requested_without_key s = is_requested_by_others s || (s.console_enabled && s.base.teletype.printer_flag)

-- nothing changes by itself: the printer is idle, no field waits for a jump, and no interrupt for an instruction. The processor is not
-- in user mode, nor goes there. No interrupt is requested where they are on.
abbrev pub is_at_rest : State8e → Bool
is_at_rest s =
    not s.user_flag && (not s.user_buffer && (not s.base.teletype.busy && (not s.base.waiting && (not s.base.held_off
    && (nat_eq s.base.instruction_buffer s.base.instruction_field && not (s.base.interrupts_on && is_requested_without_key s))))))

-- The machine waits for a key in KSF (6031) and JMP .-1, with the keyboard flag clear and nothing else to come.
abbrev pub waits_for_key : State8e → Bool
waits_for_key s =
    s.base.running && (not s.base.teletype.keyboard_flag && (is_at_ksf s && (jumps_back s.base && is_at_rest s)))
