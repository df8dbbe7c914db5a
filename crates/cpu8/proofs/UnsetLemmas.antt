-- A go where no cell has a break.
use Rattle.std.proofs.Common.{◌≡◌, ℕ, zero, suc, ◌+◌, Bool, false, if◌then◌else◌, List, [], Option, Some, None, IsSome, unwrap_or, arith, refl, ap, sym, subst, ◌∙◌}
use Rattle.cpu8.specs.State.{State, next_cell}
use Rattle.cpu8.specs.Go.{after, answer, break_ahead, reason, ending, IsGo, is_break}
use Rattle.cpu8.specs.declared.outcomes.Stepped.{Stepped}
use Rattle.cpu8.specs.declared.outcomes.Stepped.TheVariants.{Stopped, Interrupted, Ran, Halted, Unassigned}
use Rattle.cpu8.specs.declared.outcomes.Why.{Why}
use Rattle.cpu8.proofs.GoLemmas.{ending-none, ending-next}

ahead-unset : (breaks : List Bool) → ((cell : ℕ) → is_break breaks cell ≡ false) → (s : State) → break_ahead breaks s ≡ break_ahead [] s
ahead-unset breaks none s = ap (λ (b : Bool). let w : Option Why = if b then Some Why.Break else None in w) (none (next_cell s))

reason-unset : (breaks : List Bool) → ((cell : ℕ) → is_break breaks cell ≡ false) → (did : Stepped) (s : State) → reason breaks did s ≡ reason [] did s
reason-unset breaks none Stopped s = ahead-unset breaks none s
reason-unset breaks none Interrupted s = ahead-unset breaks none s
reason-unset breaks none (Ran printed) s = ahead-unset breaks none s
reason-unset breaks none Halted s = refl
reason-unset breaks none (Unassigned word) s = refl

ending-unset : (quick : Bool) (breaks : List Bool) → ((cell : ℕ) → is_break breaks cell ≡ false) → (s : State) (k : ℕ)
    → ending quick breaks s k ≡ ending quick [] s k
ending-unset quick breaks none s zero = ending-none quick breaks s ∙ sym (ending-none quick [] s)
ending-unset quick breaks none s (suc k) =
    let e : k + 1 ≡ suc k = omega arith in
    subst (λ m. ending quick breaks s m ≡ ending quick [] s m) e
    (ending-next quick breaks s k ∙ (reason-unset breaks none (answer quick k s) (after quick (k + 1) s) ∙ sym (ending-next quick [] s k)))

pub go-unset : (quick : Bool) (breaks : List Bool) (s : State) (n steps : ℕ) (why : Why) → ((cell : ℕ) → is_break breaks cell ≡ false)
    → IsGo quick [] s n steps why → IsGo quick breaks s n steps why
go-unset quick breaks s n steps why none go = record {
  within = go.within;
  least = λ m below. ending-unset quick breaks none s m ∙ go.least m below;
  last = λ below. subst (λ o. IsSome o) (sym (ending-unset quick breaks none s steps)) (go.last below);
  reason = go.reason ∙ ap (λ o. unwrap_or o Why.Limit) (sym (ending-unset quick breaks none s steps));
}
