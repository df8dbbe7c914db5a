-- What is shown for each row of a table, and of a field's number.
use Rattle.std.proofs.Common.{ℕ, ◌<◌, zero, suc, arith}

-- what is said of a row, and of the rows after it
infixr 30 ◌⊗◌
pub ◌⊗◌ : {A B : Type 0} → A → B → A × B
a ⊗ b = (a, b)

abbrev pub OfFields : (ℕ → Type 0) → Type 0
OfFields Says = Says 0 × Says 1 × Says 2 × Says 3 × Says 4 × Says 5 × Says 6 × Says 7

past : (n : ℕ) → suc (suc (suc (suc (suc (suc (suc (suc n))))))) < 8 → ⊥
past n small = omega arith

pub of_fields : (Says : ℕ → Type 0) → OfFields Says → (n : ℕ) → n < 8 → Says n
of_fields Says each zero small = each.0
of_fields Says each (suc zero) small = each.1
of_fields Says each (suc (suc zero)) small = each.2
of_fields Says each (suc (suc (suc zero))) small = each.3
of_fields Says each (suc (suc (suc (suc zero)))) small = each.4
of_fields Says each (suc (suc (suc (suc (suc zero))))) small = each.5
of_fields Says each (suc (suc (suc (suc (suc (suc zero)))))) small = each.6
of_fields Says each (suc (suc (suc (suc (suc (suc (suc zero))))))) small = each.7
of_fields Says each (suc (suc (suc (suc (suc (suc (suc (suc n)))))))) small = absurd (past n small)
