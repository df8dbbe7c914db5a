-- How often names are held.
use Rattle.std.proofs.Common.{◌≡◌, ◌∙◌, ℕ, ◌+◌, ◌<◌, ◌≤◌, nat_lt, true, if◌then◌else◌, inl, inr, List, [], ◌∷◌, ◌++◌, refl, ap, arith}
use Rattle.std.proofs.lemmas.Bool.Decides.{eqb_tells, leb_tells}
use Rattle.os8_files.specs.Holds.{times}

pub more_than_none : (n : ℕ) → 1 ≤ n → nat_lt 0 n ≡ true
more_than_none n some = elim (leb_tells 1 n) [ inl h ↦ h.0 | inr h ↦ absurd (never h.1) ]
  where
    never : n < 1 → ⊥
    never low = omega (arith, low, some)

pub times-append : (name : ℕ) (a b : List ℕ) → times name (a ++ b) ≡ times name a + times name b
times-append name [] b = omega arith
times-append name (x ∷ a) b = omega (arith, times-append name a b)

-- a name stands in itself once
pub self_once : (name : ℕ) → times name (name ∷ []) ≡ 1
self_once name = elim (eqb_tells name name) [
  | inl h ↦ ap (λ b. (if b then 1 else 0) + 0) h.0 ∙ one
  | inr h ↦ absurd (h.1 refl)
]
  where
    one : 1 + 0 ≡ 1
    one = refl
