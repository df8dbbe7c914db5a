-- Lists of which a loop takes one item after the other.
use Rattle.std.proofs.Common.{◌≡◌, ◌-◌, ◌≤◌, ◌∙◌, List, [], ◌∷◌, take, drop, length, get_or, refl, sym, ap, arith}
use Rattle.std.proofs.lemmas.List.{take_all}

-- a list is its first and what a pattern binds after it
pub first-and-others : {X : Type 0} (xs : List X) (x : X) → 1 ≤ length xs → x ≡ get_or xs 0 x → xs ≡ x ∷ take (length xs - 1) (drop 1 xs)
first-and-others [] x some is = absurd (omega (arith, some))
first-and-others (y ∷ xs) x some is = ap (λ z. z ∷ xs) (sym is) ∙ ap (λ l. x ∷ l) (sym (take_all (length (y ∷ xs) - 1) xs (omega arith)))

pub nothing : {X : Type 0} (rest : List X) → length rest ≤ 0 → rest ≡ []
nothing [] none = refl
nothing (f ∷ rest) none = absurd (omega (arith, none))
