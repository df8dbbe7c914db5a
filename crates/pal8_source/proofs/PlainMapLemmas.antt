-- Words below a number, and those of a tape.
use Rattle.std.proofs.Common.{◌≡◌, ℕ, ◌+◌, ◌<◌, zero, suc, Option, [], ◌++◌, refl, ap, ◌∙◌, arith}
use Rattle.pal8_source.specs.Plain.{lines_below, lines_if}

pub below_none : (words : ℕ → Option ℕ) → lines_below words 0 ≡ []
unfolding lines_below
below_none words = refl

next_number : (n : ℕ) → n + 1 ≡ suc n
next_number n = omega arith

below_next : (words : ℕ → Option ℕ) (n : ℕ) → lines_below words (suc n) ≡ lines_below words n ++ lines_if n (words n)
unfolding lines_below
below_next words n = refl

pub below_more : (words : ℕ → Option ℕ) (n : ℕ) → lines_below words (n + 1) ≡ lines_below words n ++ lines_if n (words n)
below_more words n = ap (lines_below words) (next_number n) ∙ below_next words n

-- the lines rest on the words below alone
pub below_same : (these those : ℕ → Option ℕ) (n : ℕ) → ((cell : ℕ) → cell < n → these cell ≡ those cell) → lines_below these n ≡ lines_below those n
unfolding lines_below
below_same these those zero same = refl
below_same these those (suc n) same =
    ap (λ l. l ++ lines_if n (these n)) (below_same these those n (λ cell low. same cell (omega (arith, low)))) ∙ ap (λ w. lines_below those n ++ lines_if n w) (same n (omega arith))
