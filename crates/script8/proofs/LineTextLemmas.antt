-- A line to which pieces are put one after another.
use Rattle.std.proofs.Common.{ℕ, List, [], ◌∷◌, ◌≡◌, ◌++◌, ◌∙◌, ap, append_assoc, append-nil, refl, Result, Ok, Err}
use Rattle.std.specs.Prelude.{is_ok, if◌then◌else◌, OnErr, OnOk}

-- two pieces
pub two_pieces : (a b c x y : List ℕ) → b ≡ a ++ x → c ≡ b ++ y → c ≡ a ++ (x ++ y)
two_pieces a b c x y first second = second ∙ ap (λ l. l ++ y) first ∙ append_assoc a x y

-- three pieces
pub three_pieces : (a b c d x y z : List ℕ) → b ≡ a ++ x → c ≡ b ++ y → d ≡ c ++ z → d ≡ a ++ (x ++ (y ++ z))
three_pieces a b c d x y z first second third = two_pieces a b d x (y ++ z) first (two_pieces b c d y z second third)

-- two pieces, the first with nothing after it
pub job_pieces : (a b c x y : List ℕ) → b ≡ a ++ (x ++ []) → c ≡ b ++ y → c ≡ a ++ (x ++ y)
job_pieces a b c x y first second = two_pieces a b c x y (first ∙ ap (λ l. a ++ l) (append-nil x)) second

-- four pieces, the third with a blank after it
pub blank_pieces : (a b c d e x y z w : List ℕ) → b ≡ a ++ x → c ≡ b ++ y → d ≡ (c ++ z) ++ 32 ∷ [] → e ≡ d ++ w → e ≡ a ++ (x ++ (y ++ (z ++ 32 ∷ w)))
blank_pieces a b c d e x y z w first second third fourth =
    two_pieces _ _ _ x (y ++ (z ++ 32 ∷ w)) first (two_pieces _ _ _ y (z ++ 32 ∷ w) second (three_pieces c (c ++ z) d e z (32 ∷ []) w refl third fourth))

-- a piece more, where it was taken
pub last_piece : {A E : Type 0} (r : Result A E) (old mid new lines tail : List ℕ) → mid ≡ old ++ lines → new ≡ (if is_ok r then mid ++ tail else mid) → OnOk r (new ≡ old ++ (lines ++ tail))
last_piece (Ok x) old mid new lines tail before is = two_pieces old mid new lines tail before is
last_piece (Err e) old mid new lines tail before is = tt

-- where it was not taken, nothing more is there
pub no_piece : {A E : Type 0} (r : Result A E) (mid new tail : List ℕ) → new ≡ (if is_ok r then mid ++ tail else mid) → OnErr r (new ≡ mid)
no_piece (Ok x) mid new tail is = tt
no_piece (Err e) mid new tail is = is
