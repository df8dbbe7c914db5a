-- Words that are copied one by one.
use Rattle.std.proofs.Common.{◌≡◌, ◌≢◌, ℕ, ◌+◌, ◌<◌, ◌≤◌, List, length, get_or-set_other, get_or-set_same, slice_index, slice_set, ap, sym, ◌∙◌, below_more, arith}
use Rattle.std.proofs.lemmas.List.{ext_get_or, length-set}

pub copied-next : (from to new : List ℕ) (n cell word : ℕ) → ((k : ℕ) → k < n → slice_index to k ≡ slice_index from k) → cell ≡ n → word ≡ slice_index from cell
    → new ≡ slice_set to cell word → length new ≡ 0o100000 → n < 0o100000 → (k : ℕ) → k < n + 1 → slice_index new k ≡ slice_index from k
copied-next from to new n cell word same at is put size less =
    let new-is : new ≡ slice_set to n (slice_index from n) = put ∙ ap (λ c. slice_set to c word) at ∙ ap (λ w. slice_set to n w) (is ∙ ap (λ c. slice_index from c) at) in
    let long : n < length to = omega (arith, less, size, ap (λ xs. length xs) new-is, length-set to n (slice_index from n)) in
    below_more (λ k. slice_index new k ≡ slice_index from k) n
    (λ k below. let other : k ≢ n = omega (arith, below) in ap (λ xs. slice_index xs k) new-is ∙ get_or-set_other to n k (slice_index from n) 0 other ∙ same k below)
    (ap (λ xs. slice_index xs n) new-is ∙ get_or-set_same to n (slice_index from n) 0 long)

pub copied-all : (from to : List ℕ) (n : ℕ) → 0o100000 ≤ n → (length from ≡ 0o100000) × (length to ≡ 0o100000)
    → ((k : ℕ) → k < n → slice_index to k ≡ slice_index from k) → to ≡ from
copied-all from to n all size same =
    ext_get_or 0 to from (size.1 ∙ sym size.0) (λ k below. same k (omega (arith, below, size.1, all)))
