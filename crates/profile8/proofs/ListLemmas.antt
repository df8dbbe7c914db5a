-- Lists of cells, and how often a cell is in one.
use Rattle.std.proofs.Common.{◌≡◌, ℕ, zero, suc, ◌+◌, ◌<◌, ◌≤◌, inl, inr, Bool, nat_eq, if◌then◌else◌, List, [], ◌∷◌, ◌++◌, length, slice_index_or, IsPermutation, refl, ap, sym, ◌∙◌, arith}
use Rattle.std.proofs.lemmas.Bool.{cases_eq, cases_lt, eq-eqb, ne_eqb}
use Rattle.std.proofs.lemmas.List.Recursion.{is_sum_by}
use Rattle.std.proofs.lemmas.List.Sorted.{sum_by-IsPermutation}
use Rattle.flow8.specs.Flow.{IsAmong}

-- ## Among

-- what stands at a place
pub among_at : (xs : List ℕ) (k d : ℕ) → k < length xs → IsAmong (slice_index_or xs k d) xs
among_at [] k d below = absurd (omega (arith, below))
among_at (x ∷ xs) zero d below = inl refl
among_at (x ∷ xs) (suc k) d below = inr (among_at xs k d (omega (arith, below)))

-- ## How often

one_if : ℕ → ℕ → ℕ
one_if cell x = if nat_eq x cell then 1 else 0

pub tally : ℕ → List ℕ → ℕ
tally cell [] = 0
tally cell (x ∷ xs) = one_if cell x + tally cell xs

one-same : (cell x : ℕ) → x ≡ cell → one_if cell x ≡ 1
unfolding one_if
one-same cell x same = ap (λ (b : Bool). if b then 1 else 0) (eq-eqb x cell same)

one-other : (cell x : ℕ) → (x ≡ cell → ⊥) → one_if cell x ≡ 0
unfolding one_if
one-other cell x apart = ap (λ (b : Bool). if b then 1 else 0) (ne_eqb x cell apart)

pub tally-none : (cell : ℕ) → tally cell [] ≡ 0
unfolding tally
tally-none cell = refl

tally-first : (cell x : ℕ) (xs : List ℕ) → tally cell (x ∷ xs) ≡ one_if cell x + tally cell xs
unfolding tally
tally-first cell x xs = refl

pub tally-same : (cell x : ℕ) (xs : List ℕ) → x ≡ cell → tally cell (x ∷ xs) ≡ 1 + tally cell xs
tally-same cell x xs same = tally-first cell x xs ∙ ap (λ n. n + tally cell xs) (one-same cell x same)

pub tally-other : (cell x : ℕ) (xs : List ℕ) → (x ≡ cell → ⊥) → tally cell (x ∷ xs) ≡ tally cell xs
tally-other cell x xs apart = let e = one-other cell x apart in omega (arith, tally-first cell x xs, e)

pub tally-less : (cell x : ℕ) (xs : List ℕ) → tally cell xs ≤ tally cell (x ∷ xs)
tally-less cell x xs = omega (arith, tally-first cell x xs)

pub tally-append : (cell : ℕ) (xs ys : List ℕ) → tally cell (xs ++ ys) ≡ tally cell xs + tally cell ys
tally-append cell [] ys = omega (arith, tally-none cell)
tally-append cell (x ∷ xs) ys = omega (arith, tally-first cell x (xs ++ ys), tally-first cell x xs, tally-append cell xs ys)

pub tally-among : (cell : ℕ) (xs : List ℕ) → IsAmong cell xs → 0 < tally cell xs
tally-among cell [] is = absurd is
tally-among cell (x ∷ xs) (inl same) = omega (arith, tally-same cell x xs (sym same))
tally-among cell (x ∷ xs) (inr other) = omega (arith, tally-less cell x xs, tally-among cell xs other)

pub among-tally : (cell : ℕ) (xs : List ℕ) → 0 < tally cell xs → IsAmong cell xs
among-tally cell [] some = absurd (omega (arith, tally-none cell, some))
among-tally cell (x ∷ xs) some = elim (cases_eq x cell) [
  | inl same ↦ inl (sym same)
  | inr apart ↦ inr (among-tally cell xs (omega (arith, some, tally-other cell x xs apart)))
]

pub not_among-tally : (cell : ℕ) (xs : List ℕ) → (IsAmong cell xs → ⊥) → tally cell xs ≡ 0
not_among-tally cell xs none = elim (cases_lt 0 (tally cell xs)) [
  | inl some ↦ absurd (none (among-tally cell xs some))
  | inr few ↦ omega (arith, few)
]

-- a list in another order
pub tally-permutation : (cell : ℕ) (xs ys : List ℕ) → IsPermutation xs ys → tally cell ys ≡ tally cell xs
unfolding tally
tally-permutation cell xs ys moved =
    is_sum_by (tally cell) (one_if cell) refl (λ _ _. refl) ys
    ∙ sum_by-IsPermutation (one_if cell) xs ys moved
    ∙ sym (is_sum_by (tally cell) (one_if cell) refl (λ _ _. refl) xs)
