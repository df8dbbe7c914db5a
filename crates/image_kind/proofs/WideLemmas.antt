-- The words that have more than twelve bits.
use Rattle.std.proofs.Common.{◌≡◌, ◌⊎◌, ℕ, zero, suc, ◌+◌, ◌-◌, ◌*◌, ◌/◌, ◌%◌, ◌<◌, ◌≤◌, List, [], ◌∷◌, ◌++◌, slice_index, All, refl, ap, arith, subst, sym, ◌∙◌, inl, inr, rules}
use Rattle.std.specs.Prelude.{Contains}
use Rattle.std.proofs.lemmas.Bool.{cases_lt, cases_eq}
use Rattle.std.proofs.lemmas.Bool.Decides.{nat_tests}
use Rattle.std.proofs.lemmas.List.Elements.{All-append, Contains-append_left, Contains-append_right}
use Rattle.image_kind.specs.declared.mending.WideWord.{WideWord}
use Rattle.image_kind.specs.Mending.{if_wide, wide_word, wide_words, word_from}

-- the word of this number and these bits
abbrev pub numbered : ℕ → ℕ → ℕ → WideWord
numbered block k bits = record { block = k / block; word = k % block; bits = bits }

-- a word is determined by its two bytes
pub same_word : (a b : List ℕ) (s k : ℕ) → slice_index a (s + 2 * k) ≡ slice_index b (s + 2 * k) → slice_index a (s + 2 * k + 1) ≡ slice_index b (s + 2 * k + 1)
    → word_from a s k ≡ word_from b s k
same_word a b s k low high = ap (λ x. x + 256 * slice_index a (s + 2 * k + 1)) low ∙ ap (λ y. slice_index b (s + 2 * k) + 256 * y) high

-- files with the same first bytes have the same words there
pub same_words : (a b : List ℕ) (s n z : ℕ) → n ≤ (z - s) / 2 → ((j : ℕ) → j < z → slice_index a j ≡ slice_index b j) → (k : ℕ) → k < n → word_from a s k ≡ word_from b s k
same_words a b s n z within same k h = same_word a b s k (same (s + 2 * k) (omega arith)) (same (s + 2 * k + 1) (omega arith))

-- files with the same words list the same of these
pub same_wide : (block : ℕ) (a b : List ℕ) (s n : ℕ) → ((k : ℕ) → k < n → word_from a s k ≡ word_from b s k) → wide_words block a s n ≡ wide_words block b s n
same_wide block a b s zero same = refl
same_wide block a b s (suc n) same =
    ap (λ ws. ws ++ wide_word block a s n) (same_wide block a b s n (λ k h. same k (omega arith)))
    ∙ ap (λ w. wide_words block b s n ++ if_wide block n w) (same n (omega arith))

pub not_wide : (block k w : ℕ) → w < 4096 → if_wide block k w ≡ []
not_wide block k w h = grind (arith, nat_tests, h)

pub is_wide : (block k w : ℕ) → 4096 ≤ w → if_wide block k w ≡ numbered block k w ∷ []
is_wide block k w h = grind (arith, nat_tests, h)

-- where all words have twelve bits none is listed
pub none_wide : (block : ℕ) (file : List ℕ) (s n : ℕ) → ((k : ℕ) → k < n → word_from file s k < 4096) → wide_words block file s n ≡ []
none_wide block file s zero range = refl
none_wide block file s (suc n) range =
    ap (λ ws. ws ++ wide_word block file s n) (none_wide block file s n (λ k h. range k (omega arith))) ∙ not_wide block n (word_from file s n) (range n (omega arith))

-- what holds of each word of more than twelve bits holds of each that is listed
pub all_wide : (P : WideWord → Type 0) (block : ℕ) (file : List ℕ) (s n : ℕ)
    → ((k : ℕ) → k < n → 4096 ≤ word_from file s k → P (numbered block k (word_from file s k))) → All P (wide_words block file s n)
all_wide P block file s zero each = search rules
all_wide P block file s (suc n) each =
    All-append P (wide_words block file s n) (wide_word block file s n) (all_wide P block file s n (λ k h. each k (omega arith)))
    (elim (cases_lt (word_from file s n) 4096) [
      | inl small ↦ subst (All P) (sym (not_wide block n (word_from file s n) small)) (search rules)
      | inr large ↦ (
          let it : P (numbered block n (word_from file s n)) = each n (omega arith) large in
          subst (All P) (sym (is_wide block n (word_from file s n) large)) (search rules))
    ])

-- each of them is listed
pub wide_listed : (block : ℕ) (file : List ℕ) (s n k : ℕ) → k < n → 4096 ≤ word_from file s k
    → Contains (wide_words block file s n) (numbered block k (word_from file s k))
wide_listed block file s zero k h large = absurd (omega arith)
wide_listed block file s (suc n) k h large =
    elim (cases_eq k n) [
      | inl e ↦ Contains-append_right (wide_words block file s n) (wide_word block file s n) (numbered block k (word_from file s k))
          (let P : ℕ → Type 0 = λ m. Contains (wide_word block file s m) (numbered block k (word_from file s k)) in
          subst P e (subst (λ ws. Contains ws (numbered block k (word_from file s k))) (sym (is_wide block k (word_from file s k) large)) (0, omega arith, refl)))
      | inr other ↦ Contains-append_left (wide_words block file s n) (wide_word block file s n) (numbered block k (word_from file s k))
          (wide_listed block file s n k (omega arith) large)
    ]
