-- Steps in which a program asks for no key.
use Rattle.std.proofs.Common.{◌≡◌, ℕ, zero, suc, ◌+◌, ◌<◌, Bool, true, false, true≢false, ◌&&◌, ◌||◌, not, nat_le, refl, ap, sym, ◌∙◌}
use Rattle.cpu8e.specs.State.{State8e}
use Rattle.cpu8e.specs.Runs.{printing_step, after_keys, after}
use Rattle.cpu8e.specs.Unasked.{IsUnasked, AreUnasked, jumps_back}
use Rattle.terminal8e.specs.Absences.{absence_at}
use Rattle.terminal8e.specs.Asks.{asks_for_key, is_at_ksf, is_undisturbed}
use Rattle.terminal8e.specs.AnyTerminal as any
use Rattle.terminal8e.specs.AnyTerminal.{GoesUnasked}
use Rattle.terminal8e.specs.Terminal.{terminal_acts}
use Rattle.terminal8e.proofs.AbsenceLemmas.{there-not}

-- where the program neither waits nor, if looks count, looks, and looks count before the interrupts do
none-asked : (unread ksf rest back looks late on : Bool) → ((not unread && ksf) && (looks || back)) ≡ false → (late && (not looks || on)) ≡ false
    → (not unread && (((ksf && rest) && back) || (late && ((ksf && rest) || on)))) ≡ false
none-asked true ksf rest back looks late on asks sooner = refl
none-asked false true rest back true late on asks sooner = absurd (true≢false asks)
none-asked false true rest true false late on asks sooner = absurd (true≢false asks)
none-asked false true rest false false true on asks sooner = absurd (true≢false sooner)
none-asked false true true false false false on asks sooner = refl
none-asked false true false false false false on asks sooner = refl
none-asked false false rest back true late on asks sooner = sooner
none-asked false false rest back false true on asks sooner = absurd (true≢false sooner)
none-asked false false rest back false false on asks sooner = refl

-- the program asks for no key in these steps
pub asks-not : (s : State8e) (since m : ℕ) → IsUnasked (nat_le 30000 since) s m
    → (nat_le 30000 (since + m) && (not (nat_le 30000 since) || (s.base.interrupts_on && s.console_enabled))) ≡ false
    → asks_for_key (since + m) (after m s) ≡ false
asks-not s since m unasked sooner =
    let x = after m s in
    let looks = nat_le 30000 since in
    none-asked x.base.teletype.keyboard_flag (is_at_ksf x) (not x.user_flag && is_undisturbed x) (jumps_back x) looks (nat_le 30000 (since + m))
    (x.base.interrupts_on && x.console_enabled) unasked.asks
    (ap (λ on. nat_le 30000 (since + m) && (not looks || (on && x.console_enabled))) unasked.interrupts
    ∙ ap (λ on. nat_le 30000 (since + m) && (not looks || (s.base.interrupts_on && on))) unasked.console ∙ sooner)

same-after : (k : ℕ) (s : State8e) → any.after terminal_acts k s ≡ after k s
unfolding any.after after_keys
same-after zero s = refl
same-after (suc k) s = ap (λ x. (printing_step x).0) (same-after k s)

pub goes-unasked : (s new : State8e) (since count : ℕ) → new ≡ after count s → AreUnasked (nat_le 30000 since) s count
    → ((m : ℕ) → m < count → (nat_le 30000 (since + m) && (not (nat_le 30000 since) || (s.base.interrupts_on && s.console_enabled))) ≡ false)
    → GoesUnasked terminal_acts since count s new
goes-unasked s new since count state unasked sooner = record {
  state = state ∙ sym (same-after count s);
  answers = λ m below. ap (λ x. (printing_step x).1) (same-after m s) ∙ (unasked m below).answer;
  asks = λ m below. ap (λ x. asks_for_key (since + m) x) (same-after m s) ∙ asks-not s since m (unasked m below) (sooner m below);
  absences = λ m below. ap (λ x. absence_at x) (same-after m s) ∙ there-not (nat_le 30000 since) s m (unasked m below);
}
