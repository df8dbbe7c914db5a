-- A machine that waits for a key.
use Rattle.std.proofs.Common.{◌≡◌, ℕ, ◌/◌, Bool, true, false, true≢false, ◌&&◌, ◌||◌, not, nat_eq, None, refl, ap, sym, ◌∙◌, arith}
use Rattle.std.proofs.lemmas.Bool.{and_parts, eqb-true}
use Rattle.cpu8.specs.State.{State, printer_done, grants_interrupt}
use Rattle.cpu8.specs.Reference.{after_fetch, direct_address, jmp_row}
use Rattle.cpu8.specs.Step.{next_word, after_instruction, step}
use Rattle.cpu8.specs.Go.{printing_step}
use Rattle.cpu8.specs.declared.outcomes.Stepped.{Stepped}
use Rattle.cpu8.specs.declared.outcomes.Stepped.TheVariants.{Ran}
use Rattle.terminal8.specs.Asks.{asks_for_key, waits_for_key, jumps_back, is_direct_jmp, word_after}

not-true : (b : Bool) → not b ≡ true → b ≡ false
not-true true h = absurd (true≢false (sym h))
not-true false h = refl

-- what a machine that waits for a key is
pub record Waits (s : State) : Type 0 where
  pub running : s.running ≡ true
  pub clear : s.teletype.keyboard_flag ≡ false
  pub word : next_word s ≡ 0o6031
  pub jmp : word_after s / 256 ≡ 10
  pub back : direct_address (after_fetch s) (word_after s) ≡ s.pc
  pub idle : s.teletype.busy ≡ false
  pub waiting : s.waiting ≡ false
  pub held_off : s.held_off ≡ false
  pub field : s.instruction_buffer ≡ s.instruction_field
  pub requested : (s.interrupts_on && s.teletype.printer_flag) ≡ false

pub waits : (s : State) → waits_for_key s ≡ true → Waits s
waits s h =
    let a = and_parts s.running _ h in
    let b = and_parts (not s.teletype.keyboard_flag) _ a.1 in
    let c = and_parts (nat_eq (next_word s) 0o6031) _ b.1 in
    let d = and_parts (jumps_back s) _ c.1 in
    let e = and_parts (is_direct_jmp (word_after s)) _ d.0 in
    let f = and_parts (not s.teletype.busy) _ d.1 in
    let g = and_parts (not s.waiting) _ f.1 in
    let i = and_parts (not s.held_off) _ g.1 in
    let j = and_parts (nat_eq s.instruction_buffer s.instruction_field) _ i.1 in
    record {
      running = a.0;
      clear = not-true s.teletype.keyboard_flag b.0;
      word = eqb-true (next_word s) 0o6031 c.0;
      jmp = eqb-true (word_after s / 256) 10 e.0;
      back = eqb-true (direct_address (after_fetch s) (word_after s)) s.pc e.1;
      idle = not-true s.teletype.busy f.0;
      waiting = not-true s.waiting g.0;
      held_off = not-true s.held_off i.0;
      field = eqb-true s.instruction_buffer s.instruction_field j.0;
      requested = not-true (s.interrupts_on && s.teletype.printer_flag) j.1;
    }

none-granted : (on flag printer : Bool) → flag ≡ false → (on && printer) ≡ false → (on && (true && (true && (flag || printer)))) ≡ false
none-granted true flag printer clear none = ap (λ b. b || printer) clear ∙ none
none-granted false flag printer clear none = refl

pub none-waiting : (s : State) → Waits s → grants_interrupt s ≡ false
none-waiting s w =
    ap (λ b. s.interrupts_on && (not b && (not s.held_off && (s.teletype.keyboard_flag || s.teletype.printer_flag)))) w.waiting
    ∙ ap (λ b. s.interrupts_on && (true && (not b && (s.teletype.keyboard_flag || s.teletype.printer_flag)))) w.held_off
    ∙ none-granted s.interrupts_on s.teletype.keyboard_flag s.teletype.printer_flag w.clear w.requested

idle-done : (s : State) → s.teletype.busy ≡ false → grants_interrupt (printer_done s) ≡ grants_interrupt s
idle-done s idle = rw idle refl

-- it asks for one
pub waits-asks : (s : State) (since : ℕ) → waits_for_key s ≡ true → asks_for_key since s ≡ true
waits-asks s since h =
    let w = waits s h in
    let none : grants_interrupt (printer_done s) ≡ false = idle-done s w.idle ∙ none-waiting s w in
    rw (none, w.clear, w.word, w.running) refl

-- ## The loop

pub printing_step-idle : (s : State) → s.teletype.busy ≡ false → printing_step true s ≡ step s
printing_step-idle s idle = rw idle refl

ksf-step : (s : State) → Waits s → step s ≡ (after_fetch s, Ran None)
unfolding step after_instruction
ksf-step s w = rw (w.running, none-waiting s w, w.word, w.clear) refl

pub printing_step-ksf : (s : State) → Waits s → printing_step true s ≡ (after_fetch s, Ran None)
printing_step-ksf s w = printing_step-idle s w.idle ∙ ksf-step s w

by-512 : (w : ℕ) → w / 256 ≡ 10 → w / 512 ≡ 5
by-512 w h = omega (arith, h)

jmp-back : (s : State) (w : ℕ) → w / 256 ≡ 10 → direct_address (after_fetch s) w ≡ s.pc
    → jmp_row (after_fetch s) w ≡ record s { waiting = false; held_off = false; instruction_field = s.instruction_buffer }
jmp-back s w jmp back = rw (jmp, back) refl

as-before : (s : State) → Waits s → record s { waiting = false; held_off = false; instruction_field = s.instruction_buffer } ≡ s
as-before s w =
    ap (λ b. record s { waiting = b; held_off = false; instruction_field = s.instruction_buffer }) (sym w.waiting)
    ∙ ap (λ b. record s { held_off = b; instruction_field = s.instruction_buffer }) (sym w.held_off)
    ∙ ap (λ f. record s { instruction_field = f }) w.field

none-following : (s : State) → Waits s → grants_interrupt (after_fetch s) ≡ false
none-following s w =
    ap (λ b. s.interrupts_on && (true && (not b && (s.teletype.keyboard_flag || s.teletype.printer_flag)))) w.held_off
    ∙ none-granted s.interrupts_on s.teletype.keyboard_flag s.teletype.printer_flag w.clear w.requested

jmp-next : (s : State) → Waits s → step (after_fetch s) ≡ (jmp_row (after_fetch s) (word_after s), Ran None)
unfolding step after_instruction
jmp-next s w = rw (none-following s w, w.running, by-512 (word_after s) w.jmp) refl

jmp-step : (s : State) → Waits s → step (after_fetch s) ≡ (s, Ran None)
jmp-step s w =
    jmp-next s w
    ∙ ap (λ (x : State). let pair : State × Stepped = (x, Ran None) in pair) (jmp-back s (word_after s) w.jmp w.back ∙ as-before s w)

pub printing_step-jmp : (s : State) → Waits s → printing_step true (after_fetch s) ≡ (s, Ran None)
printing_step-jmp s w = printing_step-idle (after_fetch s) w.idle ∙ jmp-step s w
