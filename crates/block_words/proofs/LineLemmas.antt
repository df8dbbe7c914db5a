-- Octal digits give their word back.
use Rattle.std.proofs.Common.{◌≡◌, refl, ap, ◌∙◌, ℕ, suc, ◌<◌, length, get_or, List, [], ◌∷◌, ◌++◌, arith}
use Rattle.word12.specs.Octal.{octal4, octal_number}
use Rattle.block_words.specs.Rows.{octals}
use Rattle.block_words.specs.Laws.{words_spelled}

digits-back : (word : ℕ) → word < 0o10000 → octal_number (octal4 word) ≡ word
digits-back word small = omega (arith, small)

pub octals-back : (words : List ℕ) → ((k : ℕ) → k < length words → get_or words k 0 < 0o10000) → (beside after : List ℕ)
    → words_spelled (length words) ((octals words ++ beside) ++ after) ≡ words
octals-back [] fit beside after = refl
octals-back (word ∷ words) fit beside after =
    ap (λ first. first ∷ words_spelled (length words) ((octals words ++ beside) ++ after)) (digits-back word (fit 0 (omega arith)))
    ∙ ap (λ others. word ∷ others) (octals-back words (λ k within. fit (suc k) (omega arith)) beside after)
