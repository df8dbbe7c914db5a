-- Texts that are joined one after the other.
use Rattle.std.proofs.Common.{◌≡◌, ℕ, ◌++◌, List, ap, append_assoc, ◌∙◌}

-- a text that grew by these parts, one after the other
pub grown_three : (t a b c t1 t2 t3 : List ℕ) → t1 ≡ t ++ a → t2 ≡ t1 ++ b → t3 ≡ t2 ++ c → t3 ≡ t ++ (a ++ b ++ c)
grown_three t a b c t1 t2 t3 e1 e2 e3 =
    e3 ∙ ap (λ l. l ++ c) (e2 ∙ ap (λ l. l ++ b) e1) ∙ ap (λ l. l ++ c) (append_assoc t a b) ∙ append_assoc t (a ++ b) c
