-- The permanent names, and the table's.
use Rattle.std.proofs.Common.{◌≡◌, ℕ, nat_eq, true, if◌then◌else◌, cond, Option, Some, None, List, [], ◌∷◌, refl, ap, ◌∙◌, arith}
use Rattle.std.proofs.lemmas.Bool.Decides.{nat_tests}
use Rattle.std.specs.Ordering.{nat_cmp, eq_by_cmp}
use Rattle.std.specs.FinMap.{find}
use Rattle.pal_sym.specs.Permanent.{permanent, permanent_names}
use Rattle.instructions8.specs.Instructions.{instructions}
use Rattle.instructions8.specs.Names.{code_of, are_named, are_different}

same : (a b : ℕ) → eq_by_cmp nat_cmp a b ≡ nat_eq a b
same a b = grind (arith, nat_tests)

abbrev listed : List (ℕ × ℕ) → ℕ → Option ℕ
listed [] name = None
listed (entry ∷ others) name = if nat_eq name entry.0 then Some entry.1 else listed others name

found : (entries : List (ℕ × ℕ)) (name : ℕ) → find nat_cmp name entries ≡ listed entries name
found [] name = refl
found (entry ∷ others) name =
    ap (λ t. cond t (Some entry.1) (find nat_cmp name others)) (same name entry.0) ∙ ap (λ t. cond (nat_eq name entry.0) (Some entry.1) t) (found others name)

pub permanent_code : (name : ℕ) → permanent name ≡ code_of instructions name
unfolding permanent instructions
permanent_code name = found permanent_names name

pub named : are_named instructions ≡ true
unfolding instructions
named = refl

pub different : are_different instructions ≡ true
unfolding instructions
different = refl
