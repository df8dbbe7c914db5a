-- The KL8-E console, 6030 to 6047 (Small Computer Handbook).
use Rattle.std.specs.Prelude.{ℕ, Bool, true, false, ◌&&◌, ◌||◌, nat_eq, if◌then◌else◌, None}
use Rattle.tty8.specs.Bits.{has}
use Rattle.tty8.specs.Teletype.{is_requesting}
use Rattle.cpu8.specs.Decoding.{pulses_of}
use Rattle.cpu8.specs.Reference.{after_fetch}
use Rattle.cpu8.specs.Transfer as Pdp8i
use Rattle.cpu8.specs.declared.outcomes.Stepped.{Stepped}
use Rattle.cpu8.specs.declared.outcomes.Stepped.TheVariants.{Ran}
use Rattle.cpu8e.specs.State.{State8e, with_base, as_8i}

-- what the 8/E has as the 8/I, of keyboard and printer alike: pulse 1 alone, pulse 2 alone, pulse 4 alone, and 2 with 4
abbrev pub is_console_of_8i : ℕ → Bool
is_console_of_8i w =
    nat_eq (pulses_of w) 1 || (nat_eq (pulses_of w) 2 || (nat_eq (pulses_of w) 4 || nat_eq (pulses_of w) 6))

-- an instruction that does nothing
abbrev pub nothing_row : State8e → State8e
nothing_row s = with_base s (after_fetch s.base)

-- ## Keyboard

-- KCF (6030): the keyboard flag becomes 0, and AC stays
abbrev pub kcf_row : State8e → State8e
kcf_row s = with_base s (record (after_fetch s.base) { teletype = record s.base.teletype { keyboard_flag = false } })

-- KIE (6035): the console's flags request interrupts where AC bit 11 is set
abbrev pub kie_row : State8e → State8e
kie_row s = record s { base = after_fetch s.base; console_enabled = has s.base.ac 1 }

-- 6033 and 6037 do nothing
abbrev pub keyboard_row : State8e → ℕ → State8e
keyboard_row s w =
    if is_console_of_8i w then with_base s (Pdp8i.keyboard_row s.base w)
    else if nat_eq (pulses_of w) 0 then kcf_row s
    else if nat_eq (pulses_of w) 5 then kie_row s
    else nothing_row s

-- ## Printer

-- TFL (6040): the printer flag becomes 1
abbrev pub tfl_row : State8e → State8e
tfl_row s = with_base s (record (after_fetch s.base) { teletype = record s.base.teletype { printer_flag = true } })

-- TSK (6045): skips where the console requests an interrupt
abbrev pub tsk_row : State8e → State8e
tsk_row s = with_base s (Pdp8i.after_skip s.base (s.console_enabled && is_requesting s.base.teletype))

-- 6043 and 6047 do nothing
abbrev pub printer_row : State8e → ℕ → State8e × Stepped
printer_row s w =
    if is_console_of_8i w then as_8i s (Pdp8i.printer_row s.base w)
    else if nat_eq (pulses_of w) 0 then (tfl_row s, Ran None)
    else if nat_eq (pulses_of w) 5 then (tsk_row s, Ran None)
    else (nothing_row s, Ran None)
