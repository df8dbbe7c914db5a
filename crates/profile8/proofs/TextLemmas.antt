-- Texts of cells.
use Rattle.std.proofs.Common.{◌≡◌, ℕ, suc, ◌+◌, Bool, List, [], ◌++◌, append-nil, append_assoc, refl, ap, sym, ◌∙◌, arith}
use Rattle.profile8.specs.Profile.{never_lines, never_text}

pub never-none : (is_never : ℕ → Bool) → never_lines is_never 0 ≡ []
unfolding never_lines
never-none is_never = refl

pub never-next : (is_never : ℕ → Bool) (n : ℕ) → never_lines is_never (n + 1) ≡ never_lines is_never n ++ never_text is_never n
unfolding never_lines
never-next is_never n = let e : n + 1 ≡ suc n = omega arith in ap (λ k. never_lines is_never k) e

-- the lines so far, after a text
pub never-more : (is_never : ℕ → Bool) (n : ℕ) (text text' text'' : List ℕ) → text' ≡ text ++ never_lines is_never n
    → text'' ≡ text' ++ never_text is_never n → text'' ≡ text ++ never_lines is_never (n + 1)
never-more is_never n text text' text'' before more =
    more
    ∙ ap (λ l. l ++ never_text is_never n) before
    ∙ append_assoc text (never_lines is_never n) (never_text is_never n)
    ∙ ap (λ l. text ++ l) (sym (never-next is_never n))

pub never-begun : (is_never : ℕ → Bool) (text : List ℕ) → text ≡ text ++ never_lines is_never 0
never-begun is_never text = sym (append-nil text) ∙ ap (λ l. text ++ l) (sym (never-none is_never))
