-- The lowest cell of which something is true.
use Rattle.std.proofs.Common.{◌≡◌, ℕ, ◌+◌, ◌<◌, Bool, true, false, inl, inr, Some, ap, sym, ◌∙◌, arith}
use Rattle.std.proofs.lemmas.Bool.Decides.{eqb_tells}
use Rattle.pal8_source.specs.Steps.{IsLowest}

-- nor is it true of one cell more
pub one_more : (is : ℕ → Bool) (n cell : ℕ) (b : Bool) → ((other : ℕ) → other < n → is other ≡ false) → cell ≡ n → b ≡ is cell → b ≡ false
    → (other : ℕ) → other < n + 1 → is other ≡ false
one_more is n cell b before same holds fails other small =
    elim (eqb_tells other n) [
      | inl e ↦ ap is (e.1 ∙ sym same) ∙ sym holds ∙ fails
      | inr ne ↦ let d = ne.1 in before other (omega (arith, small, d))
    ]

pub lowest_is : (is : ℕ → Bool) (n cell : ℕ) (b : Bool) → ((other : ℕ) → other < n → is other ≡ false) → cell ≡ n → b ≡ is cell → b ≡ true
    → IsLowest is (Some cell)
lowest_is is n cell b before same holds true_is = (sym holds ∙ true_is, λ other small. before other (omega (arith, small, same)))
