-- Which cells words go to.
use Rattle.std.proofs.Common.{◌≡◌, ℕ, nat_eq, Bool, true, false, ◌||◌, List, [], ◌∷◌, ◌++◌, refl, ap, ◌∙◌}
use Rattle.tape_reports.specs.Starts.{gives_word}

either : (a b c : Bool) → (a || (b || c)) ≡ ((a || b) || c)
either true b c = refl
either false b c = refl

pub joined_words : (words more : List (ℕ × ℕ)) (cell : ℕ) → gives_word (words ++ more) cell ≡ (gives_word words cell || gives_word more cell)
joined_words [] more cell = refl
joined_words (word ∷ words) more cell =
    ap (λ b. nat_eq word.0 cell || b) (joined_words words more cell) ∙ either (nat_eq word.0 cell) (gives_word words cell) (gives_word more cell)
