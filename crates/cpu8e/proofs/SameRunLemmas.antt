-- Runs that meet only common words.
use Rattle.std.proofs.Common.{◌≡◌, ℕ, zero, suc, ◌<◌, Bool, true, false, if◌then◌else◌, Option, Some, None, refl, ap, ◌∙◌, arith}
use Rattle.cpu8.specs.State.{State}
use Rattle.cpu8.specs.State as State8i
use Rattle.cpu8.specs.Go as Go8i
use Rattle.cpu8e.specs.State.{State8e, as_8e, as_8i, printer_done}
use Rattle.cpu8e.specs.Step.{step}
use Rattle.cpu8e.specs.Runs.{printing_step, with_key, after_keys, answer_with_keys, with_key_8i, after_keys_8i, answer_with_keys_8i, PrintingMeetsCommon, MeetsOnlyCommon}
use Rattle.cpu8e.proofs.CommonLemmas.{same-step}

ends : (mq : ℕ) (s : State) (b : Bool)
    → (if b then printer_done (as_8e mq s) else as_8e mq s) ≡ as_8e mq (if b then State8i.printer_done s else s)
ends mq s true = refl
ends mq s false = refl

same-printing : (mq : ℕ) (s : State) → PrintingMeetsCommon s → printing_step (as_8e mq s) ≡ as_8i (as_8e mq s) (Go8i.printing_step true s)
same-printing mq s meets = ap step (ends mq s s.teletype.busy) ∙ same-step mq (if s.teletype.busy then State8i.printer_done s else s) meets

same-key : (mq : ℕ) (key : Option ℕ) (s : State) → with_key key (as_8e mq s) ≡ as_8e mq (with_key_8i key s)
same-key mq (Some key) s = refl
same-key mq None s = refl

-- a step with its key, from states of which it is known that they are the same
same-next : (mq : ℕ) (key : Option ℕ) (e : State8e) (s : State) → e ≡ as_8e mq s → PrintingMeetsCommon (with_key_8i key s)
    → printing_step (with_key key e) ≡ as_8i (as_8e mq s) (Go8i.printing_step true (with_key_8i key s))
same-next mq key e s same meets =
    ap (λ x. printing_step (with_key key x)) same ∙ ap printing_step (same-key mq key s) ∙ same-printing mq (with_key_8i key s) meets

pub same-after : (mq : ℕ) (keys : ℕ → Option ℕ) (k : ℕ) (s : State) → MeetsOnlyCommon keys k s
    → after_keys keys k (as_8e mq s) ≡ as_8e mq (after_keys_8i keys k s)
unfolding after_keys after_keys_8i
same-after mq keys zero s meets = refl
same-after mq keys (suc k) s meets =
    ap (λ r. r.0) (same-next mq (keys k) (after_keys keys k (as_8e mq s)) (after_keys_8i keys k s)
    (same-after mq keys k s (λ m h. meets m (omega (arith, h)))) (meets k (omega arith)))

pub same-answer : (mq : ℕ) (keys : ℕ → Option ℕ) (k : ℕ) (s : State) → MeetsOnlyCommon keys k s
    → (m : ℕ) → m < k → answer_with_keys keys m (as_8e mq s) ≡ answer_with_keys_8i keys m s
same-answer mq keys k s meets m h =
    ap (λ r. r.1) (same-next mq (keys m) (after_keys keys m (as_8e mq s)) (after_keys_8i keys m s)
    (same-after mq keys m s (λ j below. meets j (omega (arith, h, below)))) (meets m h))
