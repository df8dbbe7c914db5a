-- The rest of a step of the 8/E, after its beginning, changes the word of no cell but those that it is told to change.
use Rattle.std.proofs.Common.{◌≡◌, ◌≢◌, inl, ℕ, ◌/◌, ◌%◌, nat_eq, ◌&&◌, not, slice_index, refl, ap, sym, subst}
use Rattle.cpu8.specs.State.{State}
use Rattle.cpu8.specs.Decoding.{pulses_of, field_of, is_group_1, is_group_2}
use Rattle.cpu8.specs.Operate.{is_group1_unassigned}
use Rattle.cpu8.specs.declared.outcomes.Stepped.{Stepped}
use Rattle.cpu8e.specs.State.{State8e, grants_interrupt}
use Rattle.cpu8e.specs.Console.{is_console_of_8i, keyboard_row, printer_row}
use Rattle.cpu8e.specs.Control.{control_row, is_control_of_8i}
use Rattle.cpu8e.specs.Fields.{fields_row, read_row}
use Rattle.cpu8e.specs.Operate.{is_privileged, operate_row}
use Rattle.cpu8e.specs.Step.{after_instruction, device_row, is_jump, is_reference, is_transfer, next_word, transfer_row}
use Rattle.flow8.specs.Flow.{IsAmong}
use Rattle.pdp8e.specs.DeviceInstructions.{is_device_word}
use Rattle.pdp8e.specs.State.{Pdp8e}
use Rattle.pdp8e.specs.Step.{after_beginning, rest_of_step, is_disk_word, step}
use Rattle.pdp8e.specs.Runs.{with_printer_done}
use Rattle.pdp8e.specs.Terminal.{Terminal, after_attention, after_step, at_step}
use Rattle.trace8.specs.Stores.{changing_cells}
use Rattle.trace8.proofs.ChangeLemmas as pdp8i
use Rattle.trace8.proofs.ChangeLemmas.{changed_at}
use Rattle.flow8.proofs.LawLemmas.{either}

-- ## Instructions

-- transfers and operates keep core
abbrev Keeps : State8e → State8e → Type 0
Keeps s now = now.base.core ≡ s.base.core

control_keeps : (s : State8e) (w : ℕ) → Keeps s (control_row s w)
control_keeps s w =
    either (Keeps s) (is_control_of_8i w) _ _ (pdp8i.interrupts_keep s.base w)
    (either (Keeps s) (nat_eq (pulses_of w) 0) _ _ refl
    (either (Keeps s) (nat_eq (pulses_of w) 3) _ _ refl
    (either (Keeps s) (nat_eq (pulses_of w) 4) _ _ refl
    (either (Keeps s) (nat_eq (pulses_of w) 5) _ _ refl refl))))

keyboard_keeps : (s : State8e) (w : ℕ) → Keeps s (keyboard_row s w)
keyboard_keeps s w =
    either (Keeps s) (is_console_of_8i w) _ _ refl
    (either (Keeps s) (nat_eq (pulses_of w) 0) _ _ refl (either (Keeps s) (nat_eq (pulses_of w) 5) _ _ refl refl))

abbrev KeepsBy : State8e → State8e × Stepped → Type 0
KeepsBy s r = Keeps s r.0

printer_keeps : (s : State8e) (w : ℕ) → KeepsBy s (printer_row s w)
printer_keeps s w =
    either (KeepsBy s) (is_console_of_8i w) _ _ refl
    (either (KeepsBy s) (nat_eq (pulses_of w) 0) _ _ refl (either (KeepsBy s) (nat_eq (pulses_of w) 5) _ _ refl refl))

read_keeps : (s : State8e) (n : ℕ) → Keeps s (read_row s n)
read_keeps s n =
    either (Keeps s) (nat_eq n 0) _ _ refl
    (either (Keeps s) (nat_eq n 1) _ _ refl
    (either (Keeps s) (nat_eq n 2) _ _ refl
    (either (Keeps s) (nat_eq n 3) _ _ refl
    (either (Keeps s) (nat_eq n 4) _ _ refl (either (Keeps s) (nat_eq n 5) _ _ refl refl)))))

fields_keep : (s : State8e) (w : ℕ) → Keeps s (fields_row s w)
fields_keep s w = either (Keeps s) (nat_eq (pulses_of w) 4) _ _ (read_keeps s (field_of w)) (pdp8i.fields_keep s.base w)

device_keeps : (s : State8e) (w : ℕ) → KeepsBy s (device_row s w)
device_keeps s w =
    either (KeepsBy s) (nat_eq (w / 0o10 % 0o100) 0) _ _ (control_keeps s w)
    (either (KeepsBy s) (nat_eq (w / 0o10 % 0o100) 3) _ _ (keyboard_keeps s w)
    (either (KeepsBy s) (nat_eq (w / 0o10 % 0o100) 4) _ _ (printer_keeps s w)
    (either (KeepsBy s) (nat_eq (w / 0o100 % 8) 2) _ _ (fields_keep s w) refl)))

transfer_keeps : (s : State8e) (w : ℕ) → KeepsBy s (transfer_row s w)
transfer_keeps s w = either (KeepsBy s) s.user_flag _ _ refl (device_keeps s w)

operate_keeps : (s : State8e) (w : ℕ) → KeepsBy s (operate_row s w)
operate_keeps s w =
    either (KeepsBy s) (is_group_1 w) _ _
    (either (KeepsBy s) (is_group1_unassigned w) _ _ refl (either (λ (r : State × Stepped). r.0.core ≡ s.base.core) (is_group1_unassigned w) _ _ refl refl))
    (either (KeepsBy s) (is_group_2 w) _ _ (either (KeepsBy s) (s.user_flag && is_privileged w) _ _ refl refl) refl)

-- what is told of a step that left this
abbrev IsTold : State8e → ℕ → ℕ → State8e × Stepped → Type 0
IsTold s w cell r = pdp8i.IsTold s.base w cell (r.0.base, r.1)

kept_told : (s : State8e) (w cell : ℕ) (r : State8e × Stepped) → KeepsBy s r → IsTold s w cell r
kept_told s w cell r keeps changed = absurd (changed (ap (λ core. slice_index core cell) keeps))

executed_told : (s : State8e) (w cell : ℕ) → IsTold s w cell (after_instruction s w)
unfolding after_instruction
executed_told s w cell =
    either (IsTold s w cell) (is_reference w) _ _ (pdp8i.executed_told s.base w cell)
    (either (IsTold s w cell) (is_jump w) _ _ (pdp8i.executed_told s.base w cell)
    (either (IsTold s w cell) (is_transfer w) _ _ (kept_told s w cell (transfer_row s w) (transfer_keeps s w)) (kept_told s w cell (operate_row s w) (operate_keeps s w))))

-- ## Steps

-- what is told of the rest of a step that left this
abbrev IsToldBy : Pdp8e → ℕ → Pdp8e × Stepped → Type 0
IsToldBy m cell r = IsTold m.processor (next_word m.processor) cell (r.0.processor, r.1)

finished_told : (m : Pdp8e) (cell : ℕ) → IsToldBy m cell (rest_of_step m)
finished_told m cell =
    either (IsToldBy m cell) m.processor.base.running _ _
    (either (IsToldBy m cell) (grants_interrupt m.processor) _ _
    (λ changed. inl (changed_at m.processor.base.core 0 m.processor.base.pc cell changed))
    (either (IsToldBy m cell) (is_disk_word (next_word m.processor) && not m.processor.user_flag) _ _
    (λ changed. absurd (changed refl))
    (either (IsToldBy m cell) (is_device_word (next_word m.processor) && not m.processor.user_flag) _ _
    (λ changed. absurd (changed refl)) (executed_told m.processor (next_word m.processor) cell))))
    (λ changed. absurd (changed refl))

-- ## At a terminal

pub changes_told : ((m : Pdp8e) → step m ≡ rest_of_step (after_beginning m)) → (t : Terminal) (cell : ℕ)
    → slice_index (after_step t).0.processor.base.core cell ≢ slice_index (at_step t).processor.base.core cell
    → IsAmong cell (changing_cells (at_step t).processor.base (next_word (at_step t).processor) (after_step t).1)
changes_told parts t cell =
    subst (λ (r : Pdp8e × Stepped). IsToldBy (at_step t) cell r) (sym (parts (with_printer_done (after_attention t).machine))) (finished_told (at_step t) cell)
