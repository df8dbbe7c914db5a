-- How an image grows by a block.
use Rattle.std.proofs.Common.{◌≡◌, ◌≢◌, ℕ, ◌+◌, ◌-◌, ◌*◌, ◌<◌, List, [], slice_index, slice_index_or, arith, subst, sym, ap, ◌∙◌, inl, inr}
use Rattle.std.proofs.lemmas.Bool.{cases_lt}
use Rattle.std.proofs.lemmas.Bool.Decides.{nat_tests}
use Rattle.volume_image.specs.Image.{image_word, new_word}

-- the words before a place, and 256 words from it on, have twelve bits
pub range-more : (bytes old : List ℕ) (number : ℕ)
    → ((k : ℕ) → k < 256 * number → image_word old k < 4096)
    → ((k : ℕ) → k < 256 * number → image_word bytes k ≡ image_word old k)
    → ((k : ℕ) → k < 256 → image_word bytes (256 * number + k) < 4096)
    → (k : ℕ) → k < 256 * (number + 1) → image_word bytes k < 4096
range-more bytes old number low same high k h =
    elim (cases_lt k (256 * number)) [
      | inl b ↦ (let P : ℕ → Type 0 = λ w. w < 4096 in subst P (sym (same k b)) (low k b))
      | inr b ↦ (
          let e : 256 * number + (k - 256 * number) ≡ k = omega arith in
          let P : ℕ → Type 0 = λ j. image_word bytes j < 4096 in
          subst P e (high (k - 256 * number) (omega arith)))
    ]

-- the blocks before a number, and the block of that number, stand in the image
pub words-more : (blocks : List (List ℕ)) (words : List ℕ) (bytes old : List ℕ) (number : ℕ)
    → words ≡ slice_index_or blocks number []
    → ((n k : ℕ) → n < number → k < 256 → slice_index (slice_index_or blocks n []) k ≡ image_word old (256 * n + k))
    → ((k : ℕ) → k < 256 * number → image_word bytes k ≡ image_word old k)
    → ((k : ℕ) → k < 256 → image_word bytes (256 * number + k) ≡ slice_index words k)
    → (n k : ℕ) → n < number + 1 → k < 256 → slice_index (slice_index_or blocks n []) k ≡ image_word bytes (256 * n + k)
words-more blocks words bytes old number is low same high n k hn hk =
    elim (cases_lt n number) [
      | inl b ↦ low n k b hk ∙ sym (same (256 * n + k) (omega arith))
      | inr b ↦ (
          let e : number ≡ n = omega arith in
          let P : ℕ → Type 0 = λ m. slice_index (slice_index_or blocks m []) k ≡ image_word bytes (256 * m + k) in
          subst P e (ap (λ ws. slice_index ws k) (sym is) ∙ sym (high k hk)))
    ]

-- a block of the empty volume that is not the directory's has zeros
pub new_word-other : (count number k : ℕ) → number ≢ 1 → 0 ≡ new_word count number k
new_word-other count number k ne = grind (arith, nat_tests)
