-- Steps that ask for no key.
use Rattle.std.proofs.Common.{◌≡◌, ℕ, ◌+◌, Bool, true, false, arith, sym, ap, ◌∙◌, below_more}
use Rattle.cpu8.specs.State.{State}
use Rattle.cpu8.specs.Decoding.{is_absent}
use Rattle.cpu8.specs.Step.{next_word}
use Rattle.cpu8.specs.Go.{printing_step, after}
use Rattle.cpu8.specs.QuietSteps.{is_quiet, Does}
use Rattle.cpu8.specs.Unasked.{AreUnasked, finds_no_key}
use Rattle.cpu8.proofs.QuietLemmas.{printing_step-quiet}

pub none-unasked : (s : State) → AreUnasked s 0
none-unasked s m below = absurd (omega (arith, below))

pub unasked-next : (k : ℕ) (s old new : State) → old ≡ after true k s → is_quiet true old ≡ true → finds_no_key old ≡ false
    → is_absent (next_word old) ≡ false → old.interrupts_on ≡ s.interrupts_on → Does old (next_word old) new → AreUnasked s k → AreUnasked s (k + 1)
unasked-next k s old new at h finds there same does before = below_more _ _ before (record {
  answer = ap (λ x. (printing_step true x).1) (sym at) ∙ (ap (λ p. p.1) (printing_step-quiet true old h) ∙ sym does.answer);
  finds = ap (λ x. finds_no_key x) (sym at) ∙ finds;
  there = ap (λ x. is_absent (next_word x)) (sym at) ∙ there;
  interrupts = ap (λ x. x.interrupts_on) (sym at) ∙ same;
})

-- the same where the printer is quick by a parameter
pub unasked-on : (quick : Bool) → quick ≡ true → (k : ℕ) (s old new : State) → old ≡ after quick k s → is_quiet quick old ≡ true
    → finds_no_key old ≡ false → is_absent (next_word old) ≡ false → old.interrupts_on ≡ s.interrupts_on → Does old (next_word old) new → AreUnasked s k → AreUnasked s (k + 1)
unasked-on quick on k s old new at h finds there same does before =
    unasked-next k s old new (at ∙ ap (λ q. after q k s) on) (ap (λ q. is_quiet q old) (sym on) ∙ h) finds there same does before
