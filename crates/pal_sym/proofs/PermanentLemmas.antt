-- Each permanent name has three letters.
use Rattle.std.proofs.Common.{◌≡◌, ◌≢◌, ℕ, ◌%◌, nat_eq, Bool, true, false, ◌&&◌, cond, Some, None, List, [], ◌∷◌, refl, sym, ap, ◌∙◌, arith}
use Rattle.std.proofs.lemmas.Bool.Decides.{nat_tests}
use Rattle.std.specs.Ordering.{nat_cmp, eq_by_cmp}
use Rattle.std.specs.FinMap.{find}
use Rattle.pal_sym.specs.Permanent.{permanent, permanent_names}

abbrev have_three : List (ℕ × ℕ) → Bool
have_three [] = true
have_three (entry ∷ others) = nat_eq (entry.0 % 262144) 0 && have_three others

both : (a b : Bool) → (a && b) ≡ true → (a ≡ true) × (b ≡ true)
both true b e = (refl, e)
both false b e = absurd cc

other : (name entry : ℕ) → nat_eq (entry % 262144) 0 ≡ true → name % 262144 ≢ 0 → eq_by_cmp nat_cmp name entry ≡ false
other name entry short long = grind (arith, nat_tests)

not_listed : (names : List (ℕ × ℕ)) (name : ℕ) → have_three names ≡ true → name % 262144 ≢ 0 → find nat_cmp name names ≡ None
not_listed [] name short long = refl
not_listed (entry ∷ others) name short long =
    let parts = both _ _ short in
    ap (λ t. cond t (Some entry.1) (find nat_cmp name others)) (other name entry.0 parts.0 long) ∙ not_listed others name parts.1 long

pub longer : (name : ℕ) → name % 262144 ≢ 0 → None ≡ permanent name
unfolding permanent
longer name long = sym (not_listed permanent_names name refl long)
