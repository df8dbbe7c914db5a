-- An 8/E that waits for a key, and the loop in which it does.
use Rattle.std.proofs.Common.{◌≡◌, inl, inr, ℕ, zero, suc, ◌/◌, Bool, true, false, true≢false, ◌&&◌, ◌||◌, not, nat_eq, None, refl, ap, sym, ◌∙◌, arith}
use Rattle.std.proofs.lemmas.Bool.{and_parts, eqb-true}
use Rattle.cpu8.specs.State.{State}
use Rattle.cpu8.specs.Reference.{after_fetch, direct_address, jmp_row}
use Rattle.cpu8.specs.Step as Step8i
use Rattle.cpu8.specs.declared.outcomes.Stepped.{Stepped}
use Rattle.cpu8.specs.declared.outcomes.Stepped.TheVariants.{Ran}
use Rattle.cpu8e.specs.State.{State8e, with_base, printer_done, grants_interrupt}
use Rattle.cpu8e.specs.Runs.{printing_step, after_keys, after}
use Rattle.cpu8e.specs.Step.{next_word, after_instruction, step}
use Rattle.terminal8.specs.Asks.{jumps_back, is_direct_jmp, word_after}
use Rattle.terminal8e.specs.Asks.{asks_for_key, waits_for_key, is_at_ksf, is_requested_without_key}
use Rattle.terminal8e.specs.Laws.{IsInLoop}

not-true : (b : Bool) → not b ≡ true → b ≡ false
not-true true h = absurd (true≢false (sym h))
not-true false h = refl

-- what a machine that waits for a key is
pub record Waits (s : State8e) : Type 0 where
  pub running : s.base.running ≡ true
  pub clear : s.base.teletype.keyboard_flag ≡ false
  pub word : next_word s ≡ 0o6031
  pub jmp : word_after s.base / 256 ≡ 10
  pub back : direct_address (after_fetch s.base) (word_after s.base) ≡ s.base.pc
  pub no_user : s.user_flag ≡ false
  pub no_buffer : s.user_buffer ≡ false
  pub idle : s.base.teletype.busy ≡ false
  pub waiting : s.base.waiting ≡ false
  pub held_off : s.base.held_off ≡ false
  pub field : s.base.instruction_buffer ≡ s.base.instruction_field
  pub requested : (s.base.interrupts_on && is_requested_without_key s) ≡ false

pub waits : (s : State8e) → waits_for_key s ≡ true → Waits s
waits s h =
    let a = and_parts s.base.running _ h in
    let b = and_parts (not s.base.teletype.keyboard_flag) _ a.1 in
    let c = and_parts (is_at_ksf s) _ b.1 in
    let d = and_parts (jumps_back s.base) _ c.1 in
    let e = and_parts (is_direct_jmp (word_after s.base)) _ d.0 in
    let u = and_parts (not s.user_flag) _ d.1 in
    let v = and_parts (not s.user_buffer) _ u.1 in
    let f = and_parts (not s.base.teletype.busy) _ v.1 in
    let g = and_parts (not s.base.waiting) _ f.1 in
    let i = and_parts (not s.base.held_off) _ g.1 in
    let j = and_parts (nat_eq s.base.instruction_buffer s.base.instruction_field) _ i.1 in
    record {
      running = a.0;
      clear = not-true s.base.teletype.keyboard_flag b.0;
      word = eqb-true (next_word s) 0o6031 c.0;
      jmp = eqb-true (word_after s.base / 256) 10 e.0;
      back = eqb-true (direct_address (after_fetch s.base) (word_after s.base)) s.base.pc e.1;
      no_user = not-true s.user_flag u.0;
      no_buffer = not-true s.user_buffer v.0;
      idle = not-true s.base.teletype.busy f.0;
      waiting = not-true s.base.waiting g.0;
      held_off = not-true s.base.held_off i.0;
      field = eqb-true s.base.instruction_buffer s.base.instruction_field j.0;
      requested = not-true (s.base.interrupts_on && is_requested_without_key s) j.1;
    }

none-granted : (on user enabled flag printer : Bool) → flag ≡ false → (on && (user || (enabled && printer))) ≡ false
    → (on && (true && (true && (user || (enabled && (flag || printer)))))) ≡ false
none-granted true user enabled flag printer clear none = ap (λ b. user || (enabled && (b || printer))) clear ∙ none
none-granted false user enabled flag printer clear none = refl

pub none-waiting : (s : State8e) → Waits s → grants_interrupt s ≡ false
none-waiting s w =
    ap (λ b. s.base.interrupts_on && (not b && (not s.base.held_off && ((s.user_request || s.device_request) || (s.console_enabled && (s.base.teletype.keyboard_flag || s.base.teletype.printer_flag)))))) w.waiting
    ∙ ap (λ b. s.base.interrupts_on && (true && (not b && ((s.user_request || s.device_request) || (s.console_enabled && (s.base.teletype.keyboard_flag || s.base.teletype.printer_flag)))))) w.held_off
    ∙ none-granted s.base.interrupts_on (s.user_request || s.device_request) s.console_enabled s.base.teletype.keyboard_flag s.base.teletype.printer_flag w.clear w.requested

idle-done : (s : State8e) → s.base.teletype.busy ≡ false → grants_interrupt (printer_done s) ≡ grants_interrupt s
idle-done s idle = rw idle refl

same : (n : ℕ) → nat_eq n n ≡ true
same n = grind arith

back-is : (s : State8e) → Waits s → jumps_back s.base ≡ true
back-is s w = rw (w.jmp, w.back) (same s.base.pc)

-- it asks for one
pub waits-asks : (s : State8e) (since : ℕ) → waits_for_key s ≡ true → asks_for_key since s ≡ true
waits-asks s since h =
    let w = waits s h in
    let none : grants_interrupt (printer_done s) ≡ false = idle-done s w.idle ∙ none-waiting s w in
    let back : jumps_back s.base ≡ true = back-is s w in
    rw (none, back, w.clear, w.word, w.running, w.no_user) refl

-- ## The loop

-- after the KSF
abbrev gone-on : State8e → State8e
gone-on s = with_base s (after_fetch s.base)

printing-idle : (s : State8e) → s.base.teletype.busy ≡ false → printing_step s ≡ step s
printing-idle s idle = rw idle refl

ksf-step : (s : State8e) → Waits s → step s ≡ (gone-on s, Ran None)
unfolding step after_instruction
ksf-step s w = rw (w.running, none-waiting s w, w.word, w.no_user, w.clear) refl

by-512 : (w : ℕ) → w / 256 ≡ 10 → w / 512 ≡ 5
by-512 w h = omega (arith, h)

none-following : (s : State8e) → Waits s → grants_interrupt (gone-on s) ≡ false
none-following s w =
    ap (λ b. s.base.interrupts_on && (true && (not b && ((s.user_request || s.device_request) || (s.console_enabled && (s.base.teletype.keyboard_flag || s.base.teletype.printer_flag)))))) w.held_off
    ∙ none-granted s.base.interrupts_on (s.user_request || s.device_request) s.console_enabled s.base.teletype.keyboard_flag s.base.teletype.printer_flag w.clear w.requested

-- the JMP back, with the 8/I in it as it is computed
abbrev jumped : State8e → State8e
jumped s = record s { base = jmp_row (after_fetch s.base) (word_after s.base); user_flag = s.user_buffer }

jmp-next : (s : State8e) → Waits s → step (gone-on s) ≡ (jumped s, Ran None)
unfolding step after_instruction Step8i.after_instruction
jmp-next s w = rw (none-following s w, w.running, by-512 (word_after s.base) w.jmp) refl

jmp-back : (s : State) (w : ℕ) → w / 256 ≡ 10 → direct_address (after_fetch s) w ≡ s.pc
    → jmp_row (after_fetch s) w ≡ record s { waiting = false; held_off = false; instruction_field = s.instruction_buffer }
jmp-back s w jmp back = rw (jmp, back) refl

base-before : (s : State8e) → Waits s → record s.base { waiting = false; held_off = false; instruction_field = s.base.instruction_buffer } ≡ s.base
base-before s w =
    ap (λ b. record s.base { waiting = b; held_off = false; instruction_field = s.base.instruction_buffer }) (sym w.waiting)
    ∙ ap (λ b. record s.base { held_off = b; instruction_field = s.base.instruction_buffer }) (sym w.held_off)
    ∙ ap (λ f. record s.base { instruction_field = f }) w.field

as-before : (s : State8e) → Waits s → jumped s ≡ s
as-before s w =
    ap (λ (b : State). record s { base = b; user_flag = s.user_buffer }) (jmp-back s.base (word_after s.base) w.jmp w.back ∙ base-before s w)
    ∙ ap (λ f. record s { user_flag = f }) (w.no_buffer ∙ sym w.no_user)

jmp-step : (s : State8e) → Waits s → step (gone-on s) ≡ (s, Ran None)
jmp-step s w = jmp-next s w ∙ ap (λ (x : State8e). let pair : State8e × Stepped = (x, Ran None) in pair) (as-before s w)

loop-next : (s now : State8e) → Waits s → IsInLoop s now → IsInLoop s (printing_step now).0
loop-next s now w (inl is) = inr (ap (λ x. (printing_step x).0) is ∙ ap (λ r. r.0) (printing-idle s w.idle ∙ ksf-step s w))
loop-next s now w (inr is) = inl (ap (λ x. (printing_step x).0) is ∙ ap (λ r. r.0) (printing-idle (gone-on s) w.idle ∙ jmp-step s w))

pub in-loop : (s : State8e) → Waits s → (k : ℕ) → IsInLoop s (after k s)
unfolding after_keys
in-loop s w zero = inl refl
in-loop s w (suc k) = loop-next s (after k s) w (in-loop s w k)
