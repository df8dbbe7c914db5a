-- Interrupts after ION, CIF and RMF.
use Rattle.std.proofs.Common.{◌≡◌, ◌≢◌, ℕ, zero, suc, ◌+◌, ◌%◌, ◌<◌, Bool, true, false, true≢false, ◌&&◌, not, refl, ap, sym, ◌∙◌, arith}
use Rattle.tty8.specs.Teletype.{is_requesting}
use Rattle.cpu8.specs.State.{State, grants_interrupt}
use Rattle.cpu8.specs.Decoding.{operation_of}
use Rattle.cpu8.specs.Step.{row, after_instruction, next_word, step}
use Rattle.cpu8.specs.Laws.{runs_on, is_jump, cif, rmf, later, IsIon, IsNext, IsNextWord, IsRequested, NoJump}
use Rattle.cpu8.specs.declared.decoding.Operation.TheVariants.{Jms, Jmp}
use Rattle.cpu8.specs.declared.outcomes.Stepped.TheVariants.{Interrupted}
use Rattle.cpu8.proofs.GoLemmas.{after-none, after-next}
use Rattle.cpu8.proofs.StepLemmas.{step-keeps}
use Rattle.cpu8.proofs.RunLemmas.{step-next, step-interrupt}
use Rattle.cpu8.proofs.OutcomeLemmas.{is_interrupt, row-outcome}

step-runs : (s : State) → s.running ≡ true → grants_interrupt s ≡ false → step s ≡ row (operation_of (next_word s)) s (next_word s)
unfolding step after_instruction
step-runs s running none = rw (running, none) refl

none-interrupts : (s : State) (running : Bool) → s.running ≡ running → grants_interrupt s ≡ false → is_interrupt (step s).1 ≡ false
unfolding step
none-interrupts s true running none =
    ap (λ r. is_interrupt r.1) (step-runs s running none) ∙ (row-outcome (operation_of (next_word s)) s (next_word s)).instruction
none-interrupts s false running none = rw running refl

not_interrupt : (s : State) → grants_interrupt s ≡ false → (step s).1 ≢ Interrupted
not_interrupt s none e = true≢false (ap is_interrupt (sym e) ∙ none-interrupts s s.running refl none)

-- ## ION

after-ion : (s : State) → IsIon s → (step s).0 ≡ record s { pc = (s.pc + 1) % 4096; interrupts_on = true; waiting = true }
unfolding step after_instruction
after-ion s h = rw (h.running, h.off, h.word) refl

ion-none : (s : State) → IsIon s → grants_interrupt (step s).0 ≡ false
ion-none s h = ap (λ x. grants_interrupt x) (after-ion s h)

pub ion-not_at_once : (s : State) → IsIon s → (step (step s).0).1 ≢ Interrupted
ion-not_at_once s h = not_interrupt (step s).0 (ion-none s h)

pub ion-then : (s : State) → IsIon s → IsRequested (step (step s).0).0 → (step (step (step s).0).0).1 ≡ Interrupted
ion-then s h asked =
    let first = (step s).0 in
    let running : first.running ≡ true = ap (λ x. x.running) (after-ion s h) ∙ h.running in
    let on : first.interrupts_on ≡ true = ap (λ x. x.interrupts_on) (after-ion s h) in
    let stepped = step-runs first running (ion-none s h) in
    let runs : runs_on (row (operation_of (next_word first)) first (next_word first)).1 ≡ true =
    ap (λ r. runs_on r.1) (sym stepped) ∙ (sym (step-keeps first).running ∙ asked.running) in
    let waited : (step first).0.waiting ≡ false =
    ap (λ r. r.0.waiting) stepped ∙ (row-outcome (operation_of (next_word first)) first (next_word first)).waited on runs in
    let granted : grants_interrupt (step first).0 ≡ true = rw (asked.on, waited, asked.not_held_off, asked.requested) refl in
    ap (λ r. r.1) (step-interrupt (step first).0 asked.running granted)

-- ## CIF and RMF

pub cif-held : (n : ℕ) (s : State) → n < 8 → IsNextWord (cif n) s → (step s).0.held_off ≡ true
unfolding step after_instruction
cif-held zero s below h = rw (h.running, h.undisturbed, h.fetches) refl
cif-held (suc zero) s below h = rw (h.running, h.undisturbed, h.fetches) refl
cif-held (suc (suc zero)) s below h = rw (h.running, h.undisturbed, h.fetches) refl
cif-held (suc (suc (suc zero))) s below h = rw (h.running, h.undisturbed, h.fetches) refl
cif-held (suc (suc (suc (suc zero)))) s below h = rw (h.running, h.undisturbed, h.fetches) refl
cif-held (suc (suc (suc (suc (suc zero))))) s below h = rw (h.running, h.undisturbed, h.fetches) refl
cif-held (suc (suc (suc (suc (suc (suc zero)))))) s below h = rw (h.running, h.undisturbed, h.fetches) refl
cif-held (suc (suc (suc (suc (suc (suc (suc zero))))))) s below h = rw (h.running, h.undisturbed, h.fetches) refl
cif-held (suc (suc (suc (suc (suc (suc (suc (suc n)))))))) s below h = absurd (omega (arith, below))

pub rmf-held : (s : State) → IsNextWord rmf s → (step s).0.held_off ≡ true
unfolding step after_instruction
rmf-held s h = rw (h.running, h.undisturbed, h.fetches) refl

held-none : (on waits held requests : Bool) → held ≡ true → (on && (not waits && (not held && requests))) ≡ false
held-none false waits held requests h = refl
held-none true true held requests h = refl
held-none true false true requests h = refl
held-none true false false requests h = absurd (true≢false (sym h))

none-held : (s : State) → s.held_off ≡ true → grants_interrupt s ≡ false
none-held s h = held-none s.interrupts_on s.waiting s.held_off (is_requesting s.teletype) h

held-next : (s : State) (running : Bool) → s.running ≡ running → s.held_off ≡ true → is_jump (operation_of (next_word s)) ≡ false
    → (step s).0.held_off ≡ true
unfolding step
held-next s true running held jump =
    ap (λ r. r.0.held_off) (step-runs s running (none-held s held)) ∙ (row-outcome (operation_of (next_word s)) s (next_word s)).held jump held
held-next s false running held jump = rw running held

held-later : (s : State) (k : ℕ) → s.held_off ≡ true → NoJump s k → (m : ℕ) → m < k + 1 → (later m s).held_off ≡ true
held-later s k held none zero below = ap (λ x. x.held_off) (after-none false s) ∙ held
held-later s k held none (suc m) below =
    let e : suc m ≡ m + 1 = omega arith in
    let before = held-later s k held none m (omega (arith, below)) in
    ap (λ j. (later j s).held_off) e ∙ (ap (λ x. x.held_off) (after-next false m s)
    ∙ held-next (later m s) (later m s).running refl before (none m (omega (arith, below))))

pub held-not_at_once : (s : State) (k : ℕ) → s.held_off ≡ true → NoJump s k → (m : ℕ) → m < k + 1 → (step (later m s)).1 ≢ Interrupted
held-not_at_once s k held none m below = not_interrupt (later m s) (none-held (later m s) (held-later s k held none m below))

pub jmp-ends : (s : State) → IsNext Jmp s → (step s).0.held_off ≡ false
jmp-ends s next = ap (λ r. r.0.held_off) (step-next Jmp s next)

pub jms-ends : (s : State) → IsNext Jms s → (step s).0.held_off ≡ false
jms-ends s next = ap (λ r. r.0.held_off) (step-next Jms s next)
