-- How many numbers below one are so, and whether one of them is.
use Rattle.std.proofs.Common.{◌≡◌, inl, inr, ℕ, zero, suc, ◌+◌, ◌<◌, ◌≤◌, Bool, true, false, ◌||◌, if◌then◌else◌, refl, ap, sym, ◌∙◌, arith}
use Rattle.std.proofs.lemmas.Bool.{cases_eq, or_cases, or_left, or_right, true≢false}
use Rattle.pointer_flow.specs.Programs.{count_below, is_some_below}

-- ## Counts

pub count_none : (is : ℕ → Bool) → count_below is 0 ≡ 0
unfolding count_below
count_none is = refl

pub count_more : (is : ℕ → Bool) (number : ℕ) → count_below is (suc number) ≡ count_below is number + (if is number then 1 else 0)
unfolding count_below
count_more is number = refl

pub count_same : (is other : ℕ → Bool) (number : ℕ) → ((k : ℕ) → k < number → is k ≡ other k) → count_below is number ≡ count_below other number
count_same is other zero same = count_none is ∙ sym (count_none other)
count_same is other (suc number) same =
    count_more is number
    ∙ ap (λ n. n + (if is number then 1 else 0)) (count_same is other number (λ k small. same k (omega arith)))
    ∙ ap (λ b. count_below other number + (if b then 1 else 0)) (same number (omega arith))
    ∙ sym (count_more other number)

-- what is false for each number has the count 0
pub count_nothing : (is : ℕ → Bool) (number : ℕ) → ((k : ℕ) → is k ≡ false) → count_below is number ≡ 0
count_nothing is zero never = count_none is
count_nothing is (suc number) never =
    count_more is number ∙ ap (λ b. count_below is number + (if b then 1 else 0)) (never number) ∙ (let before : count_below is number ≡ 0 = count_nothing is number never in omega arith)

one_at_most : (a b : Bool) → (a ≡ true → b ≡ true) → (if a then 1 else 0) ≤ (if b then 1 else 0)
one_at_most false false within = omega arith
one_at_most false true within = omega arith
one_at_most true true within = omega arith
one_at_most true false within = absurd (true≢false (sym (within refl)))

pub count_within : (is other : ℕ → Bool) (number : ℕ) → ((k : ℕ) → is k ≡ true → other k ≡ true) → count_below is number ≤ count_below other number
count_within is other zero within = omega (arith, count_none is, count_none other)
count_within is other (suc number) within =
    omega (arith, count_more is number, count_more other number, count_within is other number within, one_at_most (is number) (other number) (within number))

-- one number less
pub count_less : (is other : ℕ → Bool) (number at : ℕ) → at < number → is at ≡ false → other at ≡ true → ((k : ℕ) → is k ≡ true → other k ≡ true)
    → count_below is number + 1 ≤ count_below other number
count_less is other zero at small lacks has within = absurd (omega (arith, small))
count_less is other (suc number) at small lacks has within = elim (cases_eq at number) [
  | inl same ↦
      let gone : ◌≡◌ {A = ℕ} (if is number then 1 else 0) 0 = ap (λ b. if b then 1 else 0) (sym (ap is same) ∙ lacks) in
      let here : ◌≡◌ {A = ℕ} (if other number then 1 else 0) 1 = ap (λ b. if b then 1 else 0) (sym (ap other same) ∙ has) in
      omega (arith, count_more is number, count_more other number, count_within is other number within, gone, here)
  | inr apart ↦
      omega (
        arith,
        count_more is number,
        count_more other number,
        count_less is other number at (omega (arith, apart, small)) lacks has within,
        one_at_most (is number) (other number) (within number),
      )
]

-- ## Whether one is so

pub some_none : (is : ℕ → Bool) → is_some_below is 0 ≡ false
unfolding is_some_below
some_none is = refl

pub some_more : (is : ℕ → Bool) (number : ℕ) → is_some_below is (suc number) ≡ (is_some_below is number || is number)
unfolding is_some_below
some_more is number = refl

pub which_one : (is : ℕ → Bool) (number : ℕ) → is_some_below is number ≡ true → (k : ℕ) × (k < number) × (is k ≡ true)
which_one is zero some = absurd (true≢false (sym some ∙ some_none is))
which_one is (suc number) some = elim (or_cases (is_some_below is number) (is number) (sym (some_more is number) ∙ some)) [
  | inl before ↦ let found = which_one is number before in (found.0, omega (arith, found.1), found.2)
  | inr last ↦ (number, omega arith, last)
]

pub some_one : (is : ℕ → Bool) (number k : ℕ) → k < number → is k ≡ true → is_some_below is number ≡ true
some_one is zero k small has = absurd (omega (arith, small))
some_one is (suc number) k small has = elim (cases_eq k number) [
  | inl same ↦ some_more is number ∙ or_right (is_some_below is number) (is number) (sym (ap is same) ∙ has)
  | inr apart ↦ some_more is number ∙ or_left (is_some_below is number) (is number) (some_one is number k (omega (arith, small, apart)) has)
]
