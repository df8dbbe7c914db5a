-- A line to which pieces are put one after another.
use Rattle.std.proofs.Common.{ℕ, List, [], ◌∷◌, ◌≡◌, ◌++◌, ◌∙◌, ap, append_assoc, append-nil, refl, Result, Ok, Err}
use Rattle.std.specs.Prelude.{is_ok, if◌then◌else◌, OnErr, OnOk}

-- two pieces
pub two_pieces : (a b c x y : List ℕ) → b ≡ a ++ x → c ≡ b ++ y → c ≡ a ++ (x ++ y)
two_pieces a b c x y first second = second ∙ ap (λ l. l ++ y) first ∙ append_assoc a x y

-- three pieces
pub three_pieces : (a b c d x y z : List ℕ) → b ≡ a ++ x → c ≡ b ++ y → d ≡ c ++ z → d ≡ a ++ (x ++ (y ++ z))
three_pieces a b c d x y z first second third = two_pieces a b d x (y ++ z) first (two_pieces b c d y z second third)
