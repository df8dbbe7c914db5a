-- IOTs and operates neither read core nor write it.
use Rattle.std.proofs.Common.{◌≡◌, ℕ, ◌/◌, ◌%◌, Bool, true, false, ◌&&◌, nat_eq, if◌then◌else◌, List, None, refl, ap}
use Rattle.cpu8.specs.State.{State}
use Rattle.cpu8.specs.State as State8i
use Rattle.cpu8.specs.Decoding.{pulses_of, field_of, is_group_1, is_group_2}
use Rattle.cpu8.specs.Operate as Operate8i
use Rattle.cpu8.specs.Transfer as Transfer8i
use Rattle.cpu8.specs.declared.outcomes.Stepped.{Stepped}
use Rattle.cpu8.specs.declared.outcomes.Stepped.TheVariants.{Ran}
use Rattle.cpu8e.specs.State.{State8e, with_base, with_core}
use Rattle.cpu8e.specs.Control.{is_control_of_8i, control_row}
use Rattle.cpu8e.specs.Console.{is_console_of_8i, nothing_row, keyboard_row, printer_row}
use Rattle.cpu8e.specs.Fields.{read_row, fields_row}
use Rattle.cpu8e.specs.Operate.{is_privileged, operate_row}
use Rattle.cpu8e.specs.Step.{device_row, transfer_row, after_instruction}
use Rattle.cpu8e.proofs.CommonLemmas.{either}

-- the outcome with another core
abbrev pub over : List ℕ → State8e × Stepped → State8e × Stepped
over core r = (with_core r.0 core, r.1)

-- ## IOTs

interrupts-over : (s : State) (core : List ℕ) (w : ℕ)
    → Transfer8i.interrupts_row (State8i.with_core s core) w ≡ State8i.with_core (Transfer8i.interrupts_row s w) core
interrupts-over s core w = either (nat_eq (pulses_of w) 1)
    (λ yes. rw yes (either s.interrupts_on (λ on. rw on refl) (λ off. rw off refl)))
    (λ not_1. either (nat_eq (pulses_of w) 2) (λ yes. rw (not_1, yes) refl) (λ no. rw (not_1, no) refl))

control-over : (s : State8e) (core : List ℕ) (w : ℕ) → control_row (with_core s core) w ≡ with_core (control_row s w) core
control-over s core w = either (is_control_of_8i w)
    (λ yes. rw yes (ap (with_base s) (interrupts-over s.base core w)))
    (λ own. either (nat_eq (pulses_of w) 0)
    (λ yes. rw (own, yes) refl)
    (λ not_0. either (nat_eq (pulses_of w) 3)
    (λ yes. rw (own, not_0, yes) refl)
    (λ not_3. either (nat_eq (pulses_of w) 4)
    (λ yes. rw (own, not_0, not_3, yes) refl)
    (λ not_4. either (nat_eq (pulses_of w) 5)
    (λ yes. rw (own, not_0, not_3, not_4, yes) refl)
    (λ no. rw (own, not_0, not_3, not_4, no) refl)))))

keyboard-over : (s : State8e) (core : List ℕ) (w : ℕ) → keyboard_row (with_core s core) w ≡ with_core (keyboard_row s w) core
keyboard-over s core w = either (is_console_of_8i w)
    (λ yes. rw yes refl)
    (λ own. either (nat_eq (pulses_of w) 0)
    (λ yes. rw (own, yes) refl)
    (λ not_0. either (nat_eq (pulses_of w) 5) (λ yes. rw (own, not_0, yes) refl) (λ no. rw (own, not_0, no) refl)))

printer-over : (s : State8e) (core : List ℕ) (w : ℕ) → printer_row (with_core s core) w ≡ over core (printer_row s w)
printer-over s core w = either (is_console_of_8i w)
    (λ yes. rw yes refl)
    (λ own. either (nat_eq (pulses_of w) 0)
    (λ yes. rw (own, yes) refl)
    (λ not_0. either (nat_eq (pulses_of w) 5) (λ yes. rw (own, not_0, yes) refl) (λ no. rw (own, not_0, no) refl)))

read-over : (s : State8e) (core : List ℕ) (n : ℕ) → read_row (with_core s core) n ≡ with_core (read_row s n) core
read-over s core n = either (nat_eq n 0)
    (λ yes. rw yes refl)
    (λ not_0. either (nat_eq n 1)
    (λ yes. rw (not_0, yes) refl)
    (λ not_1. either (nat_eq n 2)
    (λ yes. rw (not_0, not_1, yes) refl)
    (λ not_2. either (nat_eq n 3)
    (λ yes. rw (not_0, not_1, not_2, yes) refl)
    (λ not_3. either (nat_eq n 4)
    (λ yes. rw (not_0, not_1, not_2, not_3, yes) refl)
    (λ not_4. either (nat_eq n 5)
    (λ yes. rw (not_0, not_1, not_2, not_3, not_4, yes) refl)
    (λ no. rw (not_0, not_1, not_2, not_3, not_4, no) refl))))))

fields-over : (s : State8e) (core : List ℕ) (w : ℕ) → fields_row (with_core s core) w ≡ with_core (fields_row s w) core
fields-over s core w = either (nat_eq (pulses_of w) 4)
    (λ yes. rw yes (read-over s core (field_of w)))
    (λ not_4. either (nat_eq (pulses_of w) 1)
    (λ yes. rw (not_4, yes) refl)
    (λ not_1. either (nat_eq (pulses_of w) 2)
    (λ yes. rw (not_4, not_1, yes) refl)
    (λ not_2. either (nat_eq (pulses_of w) 3)
    (λ yes. rw (not_4, not_1, not_2, yes) refl)
    (λ no. rw (not_4, not_1, not_2, no) refl))))

device-over : (s : State8e) (core : List ℕ) (w : ℕ) → device_row (with_core s core) w ≡ over core (device_row s w)
device-over s core w = either (nat_eq (w / 0o10 % 0o100) 0)
    (λ yes. rw yes (ap (λ t. (t, Ran None)) (control-over s core w)))
    (λ not_0. either (nat_eq (w / 0o10 % 0o100) 3)
    (λ yes. rw (not_0, yes) (ap (λ t. (t, Ran None)) (keyboard-over s core w)))
    (λ not_3. either (nat_eq (w / 0o10 % 0o100) 4)
    (λ yes. rw (not_0, not_3, yes) (printer-over s core w))
    (λ not_4. either (nat_eq (w / 0o100 % 8) 2)
    (λ yes. rw (not_0, not_3, not_4, yes) (ap (λ t. (t, Ran None)) (fields-over s core w)))
    (λ no. rw (not_0, not_3, not_4, no) refl))))

-- in user mode
abbrev refused : State8e → State8e × Stepped
refused s = (record (nothing_row s) { user_request = true }, Ran None)

choose : (core : List ℕ) (b : Bool) (x y one other : State8e × Stepped) → one ≡ over core x → other ≡ over core y
    → (if b then one else other) ≡ over core (if b then x else y)
choose core true x y one other e f = e
choose core false x y one other e f = f

transfer-over : (s : State8e) (core : List ℕ) (w : ℕ) → transfer_row (with_core s core) w ≡ over core (transfer_row s w)
transfer-over s core w =
    choose core s.user_flag (refused s) (device_row s w) (refused (with_core s core)) (device_row (with_core s core) w)
    refl (device-over s core w)

-- ## Operates

operate-over : (s : State8e) (core : List ℕ) (w : ℕ) → operate_row (with_core s core) w ≡ over core (operate_row s w)
operate-over s core w = either (is_group_1 w)
    (λ yes. either (Operate8i.is_group1_unassigned w) (λ swaps. rw (yes, swaps) refl) (λ no. rw (yes, no) refl))
    (λ not_1. either (is_group_2 w)
    (λ yes. either (s.user_flag && is_privileged w) (λ refused. rw (not_1, yes, refused) refl) (λ no. rw (not_1, yes, no) refl))
    (λ no. rw (not_1, no) refl))

-- ## By the operation

pub transfers : (s : State8e) (core : List ℕ) (w : ℕ) → w / 0o1000 ≡ 6
    → after_instruction (with_core s core) w ≡ over core (transfer_row s w)
unfolding after_instruction
transfers s core w e = rw e (transfer-over s core w)

pub operates : (s : State8e) (core : List ℕ) (w : ℕ) → w / 0o1000 ≡ 7
    → after_instruction (with_core s core) w ≡ over core (operate_row s w)
unfolding after_instruction
operates s core w e = rw e (operate-over s core w)
