-- A machine that goes round the loop in which it waits for a key.
use Rattle.std.proofs.Common.{◌≡◌, ℕ, zero, suc, inl, inr, [], ◌++◌, true, refl, ap, ◌∙◌}
use Rattle.cpu8.specs.State.{State}
use Rattle.cpu8.specs.Go.{printing_step, after, character_of, characters_of}
use Rattle.terminal8.specs.Laws.{IsInLoop}
use Rattle.terminal8.proofs.WaitLemmas.{Waits, printing_step-ksf, printing_step-jmp}

loop-next : (s now : State) → Waits s → IsInLoop s now → IsInLoop s (printing_step true now).0
loop-next s now w (inl is) = inr (ap (λ x. (printing_step true x).0) is ∙ ap (λ r. r.0) (printing_step-ksf s w))
loop-next s now w (inr is) = inl (ap (λ x. (printing_step true x).0) is ∙ ap (λ r. r.0) (printing_step-jmp s w))

pub in-loop : (s : State) → Waits s → (k : ℕ) → IsInLoop s (after true k s)
unfolding after
in-loop s w zero = inl refl
in-loop s w (suc k) = loop-next s (after true k s) w (in-loop s w k)

loop-prints : (s now : State) → Waits s → IsInLoop s now → character_of (printing_step true now).1 ≡ []
loop-prints s now w (inl is) = ap (λ x. character_of (printing_step true x).1) is ∙ ap (λ r. character_of r.1) (printing_step-ksf s w)
loop-prints s now w (inr is) = ap (λ x. character_of (printing_step true x).1) is ∙ ap (λ r. character_of r.1) (printing_step-jmp s w)

pub prints-none : (s : State) → Waits s → (k : ℕ) → characters_of true k s ≡ []
unfolding characters_of
prints-none s w zero = refl
prints-none s w (suc k) =
    ap (λ cs. cs ++ character_of (printing_step true (after true k s)).1) (prints-none s w k)
    ∙ loop-prints s (after true k s) w (in-loop s w k)
