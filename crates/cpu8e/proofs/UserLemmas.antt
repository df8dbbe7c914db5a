-- User mode: what a step leaves.
use Rattle.std.proofs.Common.{◌≡◌, ◌≢◌, ℕ, zero, suc, ◌/◌, ◌%◌, Bool, true, false, ◌&&◌, ◌||◌, nat_eq, nat_le, if◌then◌else◌, None, refl, sym, ◌∙◌, true≢false, arith}
use Rattle.cpu8.specs.State.{State}
use Rattle.cpu8.specs.Decoding.{pulses_of, field_of, is_group_1, is_group_2, has_osr, has_hlt}
use Rattle.cpu8.specs.Operate as Operate8i
use Rattle.cpu8.specs.Transfer as Transfer8i
use Rattle.cpu8.specs.Step as Step8i
use Rattle.cpu8.specs.Step.{next_word}
use Rattle.cpu8.specs.declared.outcomes.Stepped.{Stepped}
use Rattle.cpu8.specs.declared.outcomes.Stepped.TheVariants.{Stopped, Interrupted, Ran}
use Rattle.cpu8e.specs.State.{State8e, with_base, as_8i, grants_interrupt}
use Rattle.cpu8e.specs.Control.{is_control_of_8i, skon_row, srq_row, gtf_row, rtf_row, caf_row, control_row}
use Rattle.cpu8e.specs.Console.{is_console_of_8i, nothing_row, kcf_row, kie_row, keyboard_row, tfl_row, tsk_row, printer_row}
use Rattle.cpu8e.specs.Fields.{cint_row, rib_row, rmf_row, sint_row, user_buffer_row, read_row, fields_row}
use Rattle.cpu8e.specs.Operate.{is_privileged, bsw_result, group1_row, refusal_of, group2_row, group3_done, operate_row}
use Rattle.cpu8e.specs.Step.{is_reference, is_jump, is_transfer, jump_row, device_row, transfer_row, after_instruction, after_interrupt, step}
use Rattle.cpu8e.specs.User.{IsSettled, LeavesDevices, LeavesFields}
use Rattle.cpu8e.proofs.CommonLemmas.{either, within}

-- ## References to memory and jumps of the 8/I

pub record Refers (old new : State) : Type 0 where
  pub teletype : new.teletype ≡ old.teletype
  pub running : new.running ≡ old.running
  pub interrupts_on : new.interrupts_on ≡ old.interrupts_on
  pub instruction_buffer : new.instruction_buffer ≡ old.instruction_buffer
  pub data_field : new.data_field ≡ old.data_field

refers-at : (s : State) (w q : ℕ) → w / 0o1000 ≡ q → nat_le q 5 ≡ true → Refers s (Step8i.after_instruction s w).0
unfolding Step8i.after_instruction
refers-at s w zero e h = rw e (record { teletype = refl; running = refl; interrupts_on = refl; instruction_buffer = refl; data_field = refl })
refers-at s w (suc zero) e h = rw e (record { teletype = refl; running = refl; interrupts_on = refl; instruction_buffer = refl; data_field = refl })
refers-at s w (suc (suc zero)) e h = rw e (record { teletype = refl; running = refl; interrupts_on = refl; instruction_buffer = refl; data_field = refl })
refers-at s w (suc (suc (suc zero))) e h = rw e (record { teletype = refl; running = refl; interrupts_on = refl; instruction_buffer = refl; data_field = refl })
refers-at s w (suc (suc (suc (suc zero)))) e h = rw e (record { teletype = refl; running = refl; interrupts_on = refl; instruction_buffer = refl; data_field = refl })
refers-at s w (suc (suc (suc (suc (suc zero))))) e h = rw e (record { teletype = refl; running = refl; interrupts_on = refl; instruction_buffer = refl; data_field = refl })
refers-at s w (suc (suc (suc (suc (suc (suc q)))))) e h = let b = within (suc (suc (suc (suc (suc (suc q)))))) 5 h in absurd (omega (arith, b))

pub refers : (s : State) (w : ℕ) → nat_le (w / 0o1000) 5 ≡ true → Refers s (Step8i.after_instruction s w).0
refers s w h = refers-at s w (w / 0o1000) refl h

reference-field-at : (s : State) (w q : ℕ) → w / 0o1000 ≡ q → nat_le q 3 ≡ true
    → (Step8i.after_instruction s w).0.instruction_field ≡ s.instruction_field
unfolding Step8i.after_instruction
reference-field-at s w zero e h = rw e refl
reference-field-at s w (suc zero) e h = rw e refl
reference-field-at s w (suc (suc zero)) e h = rw e refl
reference-field-at s w (suc (suc (suc zero))) e h = rw e refl
reference-field-at s w (suc (suc (suc (suc q)))) e h = let b = within (suc (suc (suc (suc q)))) 3 h in absurd (omega (arith, b))

reference-field : (s : State) (w : ℕ) → nat_le (w / 0o1000) 3 ≡ true → (Step8i.after_instruction s w).0.instruction_field ≡ s.instruction_field
reference-field s w h = reference-field-at s w (w / 0o1000) refl h

jump-field-at : (s : State) (w q : ℕ) → w / 0o1000 ≡ q → nat_le q 3 ≡ false → nat_le q 5 ≡ true
    → (Step8i.after_instruction s w).0.instruction_field ≡ s.instruction_buffer
unfolding Step8i.after_instruction
jump-field-at s w zero e n h = absurd (true≢false n)
jump-field-at s w (suc zero) e n h = absurd (true≢false n)
jump-field-at s w (suc (suc zero)) e n h = absurd (true≢false n)
jump-field-at s w (suc (suc (suc zero))) e n h = absurd (true≢false n)
jump-field-at s w (suc (suc (suc (suc zero)))) e n h = rw e refl
jump-field-at s w (suc (suc (suc (suc (suc zero))))) e n h = rw e refl
jump-field-at s w (suc (suc (suc (suc (suc (suc q)))))) e n h = let b = within (suc (suc (suc (suc (suc (suc q)))))) 5 h in absurd (omega (arith, b))

jump-field : (s : State) (w : ℕ) → nat_le (w / 0o1000) 3 ≡ false → nat_le (w / 0o1000) 5 ≡ true
    → (Step8i.after_instruction s w).0.instruction_field ≡ s.instruction_buffer
jump-field s w n h = jump-field-at s w (w / 0o1000) refl n h

pub small : (n : ℕ) → nat_le n 3 ≡ true → nat_le n 5 ≡ true
small zero h = refl
small (suc zero) h = refl
small (suc (suc zero)) h = refl
small (suc (suc (suc zero))) h = refl
small (suc (suc (suc (suc n)))) h = let b = within (suc (suc (suc (suc n)))) 3 h in absurd (omega (arith, b))

-- ## The user flag changes by a jump alone, and the request of devices by no instruction

abbrev Keeps : State8e → State8e → Type 0
Keeps s new = (new.user_flag ≡ s.user_flag) × (new.device_request ≡ s.device_request)

abbrev Stays : State8e → State8e × Stepped → Type 0
Stays s r = Keeps s r.0

choose : (s : State8e) (b : Bool) (x y : State8e × Stepped) → Stays s x → Stays s y → Stays s (if b then x else y)
choose s true x y hx hy = hx
choose s false x y hx hy = hy

-- the same of states
flag : (s : State8e) (b : Bool) (x y : State8e) → Keeps s x → Keeps s y → Keeps s (if b then x else y)
flag s true x y hx hy = hx
flag s false x y hx hy = hy

control-stays : (s : State8e) (w : ℕ) → Keeps s (control_row s w)
control-stays s w =
    flag s (is_control_of_8i w) _ _ (refl, refl)
    (flag s (nat_eq (pulses_of w) 0) (skon_row s) _ (refl, refl)
    (flag s (nat_eq (pulses_of w) 3) (srq_row s) _ (refl, refl)
    (flag s (nat_eq (pulses_of w) 4) (gtf_row s) _ (refl, refl)
    (flag s (nat_eq (pulses_of w) 5) (rtf_row s) (caf_row s) (refl, refl) (refl, refl)))))

keyboard-stays : (s : State8e) (w : ℕ) → Keeps s (keyboard_row s w)
keyboard-stays s w =
    flag s (is_console_of_8i w) _ _ (refl, refl)
    (flag s (nat_eq (pulses_of w) 0) (kcf_row s) _ (refl, refl) (flag s (nat_eq (pulses_of w) 5) (kie_row s) (nothing_row s) (refl, refl) (refl, refl)))

printer-stays : (s : State8e) (w : ℕ) → Stays s (printer_row s w)
printer-stays s w =
    choose s (is_console_of_8i w) _ _ (refl, refl)
    (choose s (nat_eq (pulses_of w) 0) (tfl_row s, Ran None) _ (refl, refl)
    (choose s (nat_eq (pulses_of w) 5) (tsk_row s, Ran None) (nothing_row s, Ran None) (refl, refl) (refl, refl)))

read-stays : (s : State8e) (n : ℕ) → Keeps s (read_row s n)
read-stays s n =
    flag s (nat_eq n 0) (cint_row s) _ (refl, refl)
    (flag s (nat_eq n 1) (with_base s (Transfer8i.rdf_row s.base)) _ (refl, refl)
    (flag s (nat_eq n 2) (with_base s (Transfer8i.rif_row s.base)) _ (refl, refl)
    (flag s (nat_eq n 3) (rib_row s) _ (refl, refl)
    (flag s (nat_eq n 4) (rmf_row s) _ (refl, refl)
    (flag s (nat_eq n 5) (sint_row s) (user_buffer_row s (nat_eq n 7)) (refl, refl) (refl, refl))))))

fields-stay : (s : State8e) (w : ℕ) → Keeps s (fields_row s w)
fields-stay s w = flag s (nat_eq (pulses_of w) 4) (read_row s (field_of w)) _ (read-stays s (field_of w)) (refl, refl)

device-stays : (s : State8e) (w : ℕ) → Stays s (device_row s w)
device-stays s w =
    choose s (nat_eq (w / 0o10 % 0o100) 0) (control_row s w, Ran None) _ (control-stays s w)
    (choose s (nat_eq (w / 0o10 % 0o100) 3) (keyboard_row s w, Ran None) _ (keyboard-stays s w)
    (choose s (nat_eq (w / 0o10 % 0o100) 4) (printer_row s w) _ (printer-stays s w)
    (choose s (nat_eq (w / 0o100 % 8) 2) (fields_row s w, Ran None) (nothing_row s, Ran None) (fields-stay s w) (refl, refl))))

operate-stays : (s : State8e) (w : ℕ) → Stays s (operate_row s w)
operate-stays s w =
    choose s (is_group_1 w) (group1_row s w) _
    (choose s (Operate8i.is_group1_unassigned w) (with_base s (bsw_result s.base w), Ran None) _ (refl, refl) (refl, refl))
    (choose s (is_group_2 w) (group2_row s w) (group3_done s w, Ran None)
    (choose s (s.user_flag && is_privileged w) (refusal_of s w, Ran None) _ (refl, refl) (refl, refl)) (refl, refl))

transfer-stays : (s : State8e) (w : ℕ) → Stays s (transfer_row s w)
transfer-stays s w = choose s s.user_flag _ (device_row s w) (refl, refl) (device-stays s w)

-- ## In user mode

-- what an instruction leaves in user mode
record Leaves (s : State8e) (r : State8e × Stepped) : Type 0 where
  devices : LeavesDevices s r.0
  fields : LeavesFields s r.0

leave : (s : State8e) (b : Bool) (x y : State8e × Stepped) → Leaves s x → Leaves s y → Leaves s (if b then x else y)
leave s true x y hx hy = hx
leave s false x y hx hy = hy

reference-leaves : (s : State8e) (w : ℕ) → is_reference w ≡ true → Leaves s (as_8i s (Step8i.after_instruction s.base w))
reference-leaves s w h =
    let r = refers s.base w (small (w / 0o1000) h) in
    record {
      devices = record { teletype = r.teletype; console_enabled = refl; running = r.running };
      fields = record {
        instruction_field = reference-field s.base w h;
        instruction_buffer = r.instruction_buffer;
        data_field = r.data_field;
        user_flag = refl;
        user_buffer = refl;
        interrupts_on = r.interrupts_on;
      };
    }

jump-leaves : (s : State8e) (w : ℕ) → IsSettled s → s.user_flag ≡ true → is_reference w ≡ false → is_jump w ≡ true → Leaves s (jump_row s w)
jump-leaves s w settled user n h =
    let r = refers s.base w h in
    record {
      devices = record { teletype = r.teletype; console_enabled = refl; running = r.running };
      fields = record {
        instruction_field = jump-field s.base w n h ∙ settled.fields user;
        instruction_buffer = r.instruction_buffer;
        data_field = r.data_field;
        user_flag = settled.user_buffer user ∙ sym user;
        user_buffer = refl;
        interrupts_on = r.interrupts_on;
      };
    }

pub no_hlt : (a b : Bool) → a || b ≡ false → b ≡ false
no_hlt true b e = absurd (true≢false e)
no_hlt false b e = e

group2-leaves : (s : State8e) (w : ℕ) → s.user_flag ≡ true → Leaves s (group2_row s w)
group2-leaves s w user = either (is_privileged w)
    (λ yes. rw (user, yes) (record {
      devices = record { teletype = refl; console_enabled = refl; running = refl };
      fields = record { instruction_field = refl; instruction_buffer = refl; data_field = refl; user_flag = refl; user_buffer = refl; interrupts_on = refl };
    }))
    (λ no. let off = no_hlt (has_osr w) (has_hlt w) no in
    rw (user, no) (record {
      devices = record { teletype = refl; console_enabled = refl; running = rw off refl };
      fields = record { instruction_field = refl; instruction_buffer = refl; data_field = refl; user_flag = refl; user_buffer = refl; interrupts_on = refl };
    }))

group1-leaves : (s : State8e) (w : ℕ) → Leaves s (group1_row s w)
group1-leaves s w = either (Operate8i.is_group1_unassigned w)
    (λ yes. rw yes (record {
      devices = record { teletype = refl; console_enabled = refl; running = refl };
      fields = record { instruction_field = refl; instruction_buffer = refl; data_field = refl; user_flag = refl; user_buffer = refl; interrupts_on = refl };
    }))
    (λ no. rw no (record {
      devices = record { teletype = refl; console_enabled = refl; running = refl };
      fields = record { instruction_field = refl; instruction_buffer = refl; data_field = refl; user_flag = refl; user_buffer = refl; interrupts_on = refl };
    }))

operate-leaves : (s : State8e) (w : ℕ) → s.user_flag ≡ true → Leaves s (operate_row s w)
operate-leaves s w user =
    leave s (is_group_1 w) (group1_row s w) _ (group1-leaves s w)
    (leave s (is_group_2 w) (group2_row s w) (group3_done s w, Ran None) (group2-leaves s w user) (record {
      devices = record { teletype = refl; console_enabled = refl; running = refl };
      fields = record { instruction_field = refl; instruction_buffer = refl; data_field = refl; user_flag = refl; user_buffer = refl; interrupts_on = refl };
    }))

transfer-leaves : (s : State8e) (w : ℕ) → s.user_flag ≡ true → Leaves s (transfer_row s w)
transfer-leaves s w user = rw user (record {
  devices = record { teletype = refl; console_enabled = refl; running = refl };
  fields = record { instruction_field = refl; instruction_buffer = refl; data_field = refl; user_flag = refl; user_buffer = refl; interrupts_on = refl };
})

instruction-leaves : (s : State8e) (w : ℕ) → IsSettled s → s.user_flag ≡ true → Leaves s (after_instruction s w)
unfolding after_instruction
instruction-leaves s w settled user = either (is_reference w)
    (λ yes. rw yes (reference-leaves s w yes))
    (λ no. either (is_jump w)
    (λ yes. rw (no, yes) (jump-leaves s w settled user no yes))
    (λ no_jump. rw (no, no_jump) (leave s (is_transfer w) (transfer_row s w) (operate_row s w) (transfer-leaves s w user) (operate-leaves s w user))))

-- ## Steps

settled-by : (s new : State8e) → IsSettled s → LeavesFields s new → IsSettled new
settled-by s new settled f = record {
  user_buffer = λ user. f.user_buffer ∙ settled.user_buffer (sym f.user_flag ∙ user);
  fields = λ user. f.instruction_buffer ∙ settled.fields (sym f.user_flag ∙ user) ∙ sym f.instruction_field;
}

never : {P : Type 0} (b : Bool) → b ≡ false → b ≡ true → P
never true e h = absurd (true≢false e)
never false e h = absurd (true≢false (sym h))

-- out of user mode
pub unflagged : (new : State8e) → new.user_flag ≡ false → IsSettled new
unflagged new off = record { user_buffer = never new.user_flag off; fields = never new.user_flag off }

jump-settles : (s : State8e) (w : ℕ) → is_reference w ≡ false → is_jump w ≡ true → IsSettled (jump_row s w).0
jump-settles s w n h =
    let r = refers s.base w h in
    record { user_buffer = λ user. user; fields = λ user. r.instruction_buffer ∙ sym (jump-field s.base w n h) }

instruction-settles-out : (s : State8e) (w : ℕ) → s.user_flag ≡ false → IsSettled (after_instruction s w).0
unfolding after_instruction
instruction-settles-out s w off = either (is_reference w)
    (λ yes. rw yes (unflagged (with_base s (Step8i.after_instruction s.base w).0) off))
    (λ no. either (is_jump w)
    (λ yes. rw (no, yes) (jump-settles s w no yes))
    (λ no_jump. rw (no, no_jump) (unflagged (if is_transfer w then transfer_row s w else operate_row s w).0
    ((choose s (is_transfer w) (transfer_row s w) (operate_row s w) (transfer-stays s w) (operate-stays s w)).0 ∙ off))))

instruction-settles : (s : State8e) (w : ℕ) → IsSettled s → IsSettled (after_instruction s w).0
instruction-settles s w settled = either s.user_flag
    (λ user. settled-by s (after_instruction s w).0 settled (instruction-leaves s w settled user).fields)
    (λ off. instruction-settles-out s w off)

settles : (s : State8e) (runs grants : Bool) → IsSettled s
    → IsSettled (if runs then (if grants then (after_interrupt s, Interrupted) else after_instruction s (next_word s.base)) else (s, Stopped)).0
settles s true true settled = unflagged (after_interrupt s) refl
settles s true false settled = instruction-settles s (next_word s.base) settled
settles s false grants settled = settled

pub step-settles : (s : State8e) → IsSettled s → IsSettled (step s).0
unfolding step
step-settles s settled = settles s s.base.running (grants_interrupt s) settled

leaves-devices : (s : State8e) (runs grants : Bool) → IsSettled s → s.user_flag ≡ true
    → LeavesDevices s (if runs then (if grants then (after_interrupt s, Interrupted) else after_instruction s (next_word s.base)) else (s, Stopped)).0
leaves-devices s true true settled user = record { teletype = refl; console_enabled = refl; running = refl }
leaves-devices s true false settled user = (instruction-leaves s (next_word s.base) settled user).devices
leaves-devices s false grants settled user = record { teletype = refl; console_enabled = refl; running = refl }

pub step-leaves-devices : (s : State8e) → IsSettled s → s.user_flag ≡ true → LeavesDevices s (step s).0
unfolding step
step-leaves-devices s settled user = leaves-devices s s.base.running (grants_interrupt s) settled user

leaves-fields : (s : State8e) (runs grants : Bool) → IsSettled s → s.user_flag ≡ true
    → (if runs then (if grants then (after_interrupt s, Interrupted) else after_instruction s (next_word s.base)) else (s, Stopped)).1 ≢ Interrupted
    → LeavesFields s (if runs then (if grants then (after_interrupt s, Interrupted) else after_instruction s (next_word s.base)) else (s, Stopped)).0
leaves-fields s true true settled user not_so = absurd (not_so refl)
leaves-fields s true false settled user not_so = (instruction-leaves s (next_word s.base) settled user).fields
leaves-fields s false grants settled user not_so =
    record { instruction_field = refl; instruction_buffer = refl; data_field = refl; user_flag = refl; user_buffer = refl; interrupts_on = refl }

pub step-leaves-fields : (s : State8e) → IsSettled s → s.user_flag ≡ true → (step s).1 ≢ Interrupted → LeavesFields s (step s).0
unfolding step
step-leaves-fields s settled user not_so = leaves-fields s s.base.running (grants_interrupt s) settled user not_so

-- ## The request of devices

instruction-requests : (s : State8e) (w : ℕ) → (after_instruction s w).0.device_request ≡ s.device_request
unfolding after_instruction
instruction-requests s w = either (is_reference w)
    (λ yes. rw yes refl)
    (λ no. either (is_jump w)
    (λ yes. rw (no, yes) refl)
    (λ no_jump. rw (no, no_jump) (choose s (is_transfer w) (transfer_row s w) (operate_row s w) (transfer-stays s w) (operate-stays s w)).1))

requests : (s : State8e) (runs grants : Bool)
    → (if runs then (if grants then (after_interrupt s, Interrupted) else after_instruction s (next_word s.base)) else (s, Stopped)).0.device_request
    ≡ s.device_request
requests s true true = refl
requests s true false = instruction-requests s (next_word s.base)
requests s false grants = refl

pub step-requests : (s : State8e) → (step s).0.device_request ≡ s.device_request
unfolding step
step-requests s = requests s s.base.running (grants_interrupt s)
