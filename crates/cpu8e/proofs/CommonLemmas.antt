-- A step that is common to the 8/E and the 8/I.
use Rattle.std.proofs.Common.{◌≡◌, ℕ, zero, suc, ◌/◌, ◌%◌, ◌<◌, ◌≤◌, Bool, true, false, ◌&&◌, nat_eq, nat_le, if◌then◌else◌, None, not, refl, ap, sym, ◌∙◌, true≢false, arith}
use Rattle.std.proofs.lemmas.Bool.Decides.{nat_tests}
use Rattle.cpu8.specs.State.{State}
use Rattle.cpu8.specs.State as State8i
use Rattle.cpu8.specs.Decoding.{pulses_of, field_of, is_group_1}
use Rattle.cpu8.specs.Operate as Operate8i
use Rattle.cpu8.specs.Transfer as Transfer8i
use Rattle.cpu8.specs.Step as Step8i
use Rattle.cpu8.specs.Step.{next_word}
use Rattle.cpu8.specs.declared.outcomes.Stepped.TheVariants.{Stopped, Interrupted, Ran}
use Rattle.cpu8e.specs.State.{as_8e, as_8i}
use Rattle.cpu8e.specs.Control.{is_control_of_8i}
use Rattle.cpu8e.specs.Console.{is_console_of_8i}
use Rattle.cpu8e.specs.Fields.{read_row, fields_row}
use Rattle.cpu8e.specs.Operate.{operate_row}
use Rattle.cpu8e.specs.Step.{is_reference, is_jump, is_transfer, device_row, after_instruction, after_interrupt, step}
use Rattle.cpu8e.specs.Common.{is_common_field, is_common_transfer, is_common_operate, is_common, MeetsCommon}

-- a test holds or doesn't
pub either : {P : Type 0} (b : Bool) → (b ≡ true → P) → (b ≡ false → P) → P
either true f g = f refl
either false f g = g refl

pub within : (n k : ℕ) → nat_le n k ≡ true → n ≤ k
within n k e = grind (arith, nat_tests)

-- ## IOTs

both : (a b : Bool) → a && b ≡ true → b ≡ true
both true b e = e
both false b e = absurd (true≢false (sym e))

-- a 62N4 with N from 1 to 4
same-read : (mq : ℕ) (s : State) (n : ℕ) → nat_le 1 n && nat_le n 4 ≡ true → read_row (as_8e mq s) n ≡ as_8e mq (Transfer8i.read_row s n)
same-read mq s zero e = absurd (true≢false (sym e))
same-read mq s (suc zero) e = refl
same-read mq s (suc (suc zero)) e = refl
same-read mq s (suc (suc (suc zero))) e = refl
same-read mq s (suc (suc (suc (suc zero)))) e = refl
same-read mq s (suc (suc (suc (suc (suc n))))) e =
    let h = within (suc (suc (suc (suc (suc n))))) 4 (both (nat_le 1 (suc (suc (suc (suc (suc n)))))) _ e) in absurd (omega (arith, h))

four : (p : ℕ) → nat_eq p 4 ≡ true → p ≡ 4
four p e = grind (arith, nat_tests)

same-fields : (mq : ℕ) (s : State) (w : ℕ) → is_common_field w ≡ true → fields_row (as_8e mq s) w ≡ as_8e mq (Transfer8i.fields_row s w)
same-fields mq s w common = either (nat_eq (pulses_of w) 4)
    (λ yes. let n : nat_le 1 (field_of w) && nat_le (field_of w) 4 ≡ true = rw yes at common in
    rw (four (pulses_of w) yes) (same-read mq s (field_of w) n))
    (λ no. rw no refl)

-- an IOT of a device that both have, or that is not there
same-device : (mq : ℕ) (s : State) (w : ℕ) → is_common_transfer w ≡ true
    → device_row (as_8e mq s) w ≡ as_8i (as_8e mq s) (Transfer8i.transfer_row s w)
same-device mq s w common = either (nat_eq (w / 0o10 % 0o100) 0)
    (λ yes. let c : is_control_of_8i w ≡ true = rw yes at common in rw (yes, c) refl)
    (λ not_0. either (nat_eq (w / 0o10 % 0o100) 3)
    (λ yes. let c : is_console_of_8i w ≡ true = rw (not_0, yes) at common in rw (not_0, yes, c) refl)
    (λ not_3. either (nat_eq (w / 0o10 % 0o100) 4)
    (λ yes. let c : is_console_of_8i w ≡ true = rw (not_0, not_3, yes) at common in rw (not_0, not_3, yes, c) refl)
    (λ not_4. either (nat_eq (w / 0o100 % 8) 2)
    (λ yes. let c : is_common_field w ≡ true = rw (not_0, not_3, not_4, yes) at common in
    rw (not_0, not_3, not_4, yes) (ap (λ t. (t, Ran None)) (same-fields mq s w c)))
    (λ no. rw (not_0, not_3, not_4, no) refl))))

six : (w : ℕ) → is_transfer w ≡ true → w / 0o1000 ≡ 6
six w e = grind (arith, nat_tests)

iot-8i : (s : State) (w : ℕ) → is_transfer w ≡ true → Step8i.after_instruction s w ≡ Transfer8i.transfer_row s w
unfolding Step8i.after_instruction
iot-8i s w e = rw (six w e) refl

-- ## Operates

record IsOperate (w : ℕ) : Type 0 where
  is_0 : nat_eq (w / 0o1000) 0 ≡ false
  is_1 : nat_eq (w / 0o1000) 1 ≡ false
  is_2 : nat_eq (w / 0o1000) 2 ≡ false
  is_3 : nat_eq (w / 0o1000) 3 ≡ false
  is_4 : nat_eq (w / 0o1000) 4 ≡ false
  is_5 : nat_eq (w / 0o1000) 5 ≡ false

above : (n : ℕ) → nat_le n 5 ≡ false → 5 < n
above n e = grind (arith, nat_tests)

apart : (n k : ℕ) → k < n → nat_eq n k ≡ false
apart n k h = grind (arith, nat_tests)

operate : (w : ℕ) → is_jump w ≡ false → IsOperate w
operate w e =
    let h : 5 < w / 0o1000 = above (w / 0o1000) e in
    record {
      is_0 = apart (w / 0o1000) 0 (omega arith);
      is_1 = apart (w / 0o1000) 1 (omega arith);
      is_2 = apart (w / 0o1000) 2 (omega arith);
      is_3 = apart (w / 0o1000) 3 (omega arith);
      is_4 = apart (w / 0o1000) 4 (omega arith);
      is_5 = apart (w / 0o1000) 5 h;
    }

pub opr-8i : (s : State) (w : ℕ) → is_jump w ≡ false → is_transfer w ≡ false → Step8i.after_instruction s w ≡ Operate8i.operate_row s w
unfolding Step8i.after_instruction
opr-8i s w no_jump no_iot =
    let o = operate w no_jump in
    rw (o.is_0, o.is_1, o.is_2, o.is_3, o.is_4, o.is_5, no_iot) refl

assigned : (b : Bool) → not b ≡ true → b ≡ false
assigned true e = absurd (true≢false (sym e))
assigned false e = refl

same-operate : (mq : ℕ) (s : State) (w : ℕ) → is_common_operate w ≡ true → operate_row (as_8e mq s) w ≡ as_8i (as_8e mq s) (Operate8i.operate_row s w)
same-operate mq s w common = either (is_group_1 w)
    (λ yes. let c : Operate8i.is_group1_unassigned w ≡ false = assigned (Operate8i.is_group1_unassigned w) (rw yes at common) in rw (yes, c) refl)
    (λ no. let c : nat_eq (w % 2) 0 ≡ true = rw no at common in rw (no, c) refl)

-- ## All words

pub same-instruction : (mq : ℕ) (s : State) (w : ℕ) → is_common w ≡ true
    → after_instruction (as_8e mq s) w ≡ as_8i (as_8e mq s) (Step8i.after_instruction s w)
unfolding after_instruction
same-instruction mq s w common = either (is_reference w)
    (λ yes. rw yes refl)
    (λ no_reference. either (is_jump w)
    (λ yes. rw (no_reference, yes) refl)
    (λ no_jump. either (is_transfer w)
    (λ yes. let c : is_common_transfer w ≡ true = rw (no_jump, yes) at common in
    rw (no_reference, no_jump, yes) (same-device mq s w c ∙ ap (as_8i (as_8e mq s)) (sym (iot-8i s w yes))))
    (λ no. let c : is_common_operate w ≡ true = rw (no_jump, no) at common in
    rw (no_reference, no_jump, no) (same-operate mq s w c ∙ ap (as_8i (as_8e mq s)) (sym (opr-8i s w no_jump no))))))

-- ## A step

chosen : (mq : ℕ) (s : State) (runs grants : Bool) → s.running ≡ runs → State8i.grants_interrupt s ≡ grants → MeetsCommon s
    → (if runs then (if grants then (after_interrupt (as_8e mq s), Interrupted) else after_instruction (as_8e mq s) (next_word s))
    else (as_8e mq s, Stopped))
    ≡ as_8i (as_8e mq s)
    (if runs then (if grants then (Step8i.after_interrupt s, Interrupted) else Step8i.after_instruction s (next_word s)) else (s, Stopped))
chosen mq s true true r g meets = refl
chosen mq s true false r g meets = same-instruction mq s (next_word s) (meets r g)
chosen mq s false grants r g meets = refl

pub same-step : (mq : ℕ) (s : State) → MeetsCommon s → step (as_8e mq s) ≡ as_8i (as_8e mq s) (Step8i.step s)
unfolding step Step8i.step
same-step mq s meets = chosen mq s s.running (State8i.grants_interrupt s) refl refl meets
