-- That an operate is shown by the fewest names of its group: a name more makes one name more to be shown, at most.
use Rattle.std.proofs.Common.{◌≡◌, ℕ, ◌+◌, ◌-◌, ◌≤◌, ◌<◌, nat_eq, nat_lt, nat_le, bit_or, Bool, true, false, ◌&&◌, ◌||◌, not, inl, inr, zero, suc, length, List, [], ◌∷◌, refl, ap, sym, subst, ◌∙◌, arith}
use Rattle.std.proofs.lemmas.Bool.Decides.{eqb_tells, nat_tests}
use Rattle.tape_source.specs.Patterns.{Pattern, patterns, patterns_of, or_after}
use Rattle.tape_source.specs.Fewest.{group_1, group_2, is_one_of, are_of, or_all, values_of, AreFewest}
use Rattle.tape_source.proofs.ByteLemmas.{both}

-- a word of group 1, and one that names of group 2 come to
abbrev of_1 : ℕ → Bool
of_1 word = (nat_le 3584 word && nat_lt word 3840) && are_of group_1 (values_of (patterns_of word patterns))

abbrev of_2 : ℕ → Bool
of_2 word = (nat_eq word 3712 || (nat_le 3840 word && nat_lt word 4096)) && are_of group_2 (values_of (patterns_of word patterns))

abbrev named : List Pattern → ℕ → Bool
named table word = nat_lt 0o5777 word && nat_eq (or_after 0 (patterns_of word table)) word

-- a word is shown by no more names than so many
abbrev within : List Pattern → (ℕ → Bool) → ℕ → ℕ → Bool
within table ok word most = ok word && (named table word && nat_le (length (patterns_of word table)) most)

abbrev steps : List Pattern → (ℕ → Bool) → ℕ → ℕ → List ℕ → Bool
steps table ok word count [] = true
steps table ok word count (value ∷ values) = within table ok (bit_or word value) (suc count) && steps table ok word count values

-- a name more, after a word that is shown by names
abbrev step_of : List Pattern → (ℕ → Bool) → List ℕ → ℕ → Bool
step_of table ok group word = not (ok word) || (not (named table word) || steps table ok word (length (patterns_of word table)) group)

abbrev all_steps : List Pattern → (ℕ → Bool) → List ℕ → ℕ → ℕ → Bool
all_steps table ok group base zero = true
all_steps table ok group base (suc count) = step_of table ok group (base + count) && all_steps table ok group base count

abbrev firsts : List Pattern → (ℕ → Bool) → List ℕ → Bool
firsts table ok [] = true
firsts table ok (value ∷ values) = within table ok value 1 && firsts table ok values

first_1 : firsts patterns of_1 group_1 ≡ true
unfolding patterns group_1
first_1 = refl

first_2 : firsts patterns of_2 group_2 ≡ true
unfolding patterns group_2
first_2 = refl

steps_1 : all_steps patterns of_1 group_1 3584 256 ≡ true
unfolding patterns group_1
steps_1 = refl

steps_2 : all_steps patterns of_2 group_2 3712 384 ≡ true
unfolding patterns group_2
steps_2 = refl

-- ## Any number of names

equal : (a b : ℕ) → nat_eq a b ≡ true → a ≡ b
equal a b e = grind (arith, nat_tests)

at_most : (a b : ℕ) → nat_le a b ≡ true → a ≤ b
at_most a b e = grind (arith, nat_tests)

first_of_all : (table : List Pattern) (ok : ℕ → Bool) (group : List ℕ) (value : ℕ) → firsts table ok group ≡ true → is_one_of group value ≡ true → within table ok value 1 ≡ true
first_of_all table ok [] value all one = absurd (cc one)
first_of_all table ok (first ∷ others) value all one =
    let parts = both (within table ok first 1) (firsts table ok others) all in
    elim (eqb_tells first value) [
      | inl same ↦ subst (λ v. within table ok v 1 ≡ true) same.1 parts.0
      | inr other ↦ first_of_all table ok others value parts.1 (ap (λ b. b || is_one_of others value) (sym other.0) ∙ one)
    ]

one_step : (table : List Pattern) (ok : ℕ → Bool) (group : List ℕ) (word count value : ℕ) → steps table ok word count group ≡ true → is_one_of group value ≡ true
    → within table ok (bit_or word value) (suc count) ≡ true
one_step table ok [] word count value all one = absurd (cc one)
one_step table ok (first ∷ others) word count value all one =
    let parts = both (within table ok (bit_or word first) (suc count)) (steps table ok word count others) all in
    elim (eqb_tells first value) [
      | inl same ↦ subst (λ v. within table ok (bit_or word v) (suc count) ≡ true) same.1 parts.0
      | inr other ↦ one_step table ok others word count value parts.1 (ap (λ b. b || is_one_of others value) (sym other.0) ∙ one)
    ]

step_at : (table : List Pattern) (ok : ℕ → Bool) (group : List ℕ) (base count k : ℕ) → all_steps table ok group base count ≡ true → k < count → step_of table ok group (base + k) ≡ true
step_at table ok group base zero k all low = absurd (omega (arith, low))
step_at table ok group base (suc count) k all low =
    let parts = both (step_of table ok group (base + count)) (all_steps table ok group base count) all in
    elim (eqb_tells k count) [
      | inl same ↦ subst (λ n. step_of table ok group (base + n) ≡ true) (sym same.1) parts.0
      | inr other ↦ let ne = other.1 in step_at table ok group base count k parts.1 (omega (arith, low, ne))
    ]

taken : (a b c : Bool) → a ≡ true → b ≡ true → (not a || (not b || c)) ≡ true → c ≡ true
taken true true c e f g = g
taken false b c e f g = absurd (cc e)
taken true false c e f g = absurd (cc f)

-- what the words of a group are checked for
record IsChecked (table : List Pattern) (ok : ℕ → Bool) (group : List ℕ) : Type 0 where
  firsts_are : firsts table ok group ≡ true
  step_is : (word : ℕ) → ok word ≡ true → step_of table ok group word ≡ true

-- a word is shown by names, no more than so many
record IsShownBy (table : List Pattern) (ok : ℕ → Bool) (word most : ℕ) : Type 0 where
  is_ok : ok word ≡ true
  is_named_so : named table word ≡ true
  few : length (patterns_of word table) ≤ most

shown_by : (table : List Pattern) (ok : ℕ → Bool) (word least most : ℕ) → least ≤ most → within table ok word least ≡ true → IsShownBy table ok word most
shown_by table ok word least most less is =
    let a = both (ok word) (named table word && nat_le (length (patterns_of word table)) least) is in
    let b = both (named table word) (nat_le (length (patterns_of word table)) least) a.1 in
    let few = at_most (length (patterns_of word table)) least b.1 in
    record { is_ok = a.0; is_named_so = b.0; few = omega (arith, few, less) }

all_names : (table : List Pattern) (ok : ℕ → Bool) (group values : List ℕ) (word most : ℕ) → IsChecked table ok group → are_of group values ≡ true → IsShownBy table ok word most
    → IsShownBy table ok (or_all word values) (most + length values)
all_names table ok group [] word most checked are shown = record { is_ok = shown.is_ok; is_named_so = shown.is_named_so; few = let few = shown.few in omega (arith, few) }
all_names table ok group (value ∷ values) word most checked are shown =
    let parts = both (is_one_of group value) (are_of group values) are in
    let steps_are = taken (ok word) (named table word) (steps table ok word (length (patterns_of word table)) group) shown.is_ok shown.is_named_so (checked.step_is word shown.is_ok) in
    let few = shown.few in
    let next = shown_by table ok (bit_or word value) (suc (length (patterns_of word table))) (suc most) (omega (arith, few))
    (one_step table ok group word (length (patterns_of word table)) value steps_are parts.0) in
    let rest = all_names table ok group values (bit_or word value) (suc most) checked parts.1 next in
    record { is_ok = rest.is_ok; is_named_so = rest.is_named_so; few = let less = rest.few in omega (arith, less) }

fewest : (ok : ℕ → Bool) (group : List ℕ) → IsChecked patterns ok group
    → ((word : ℕ) → ok word ≡ true → are_of group (values_of (patterns_of word patterns)) ≡ true) → AreFewest group
fewest ok group checked own value values are =
    let parts = both (is_one_of group value) (are_of group values) are in
    let first = shown_by patterns ok value 1 1 (omega arith) (first_of_all patterns ok group value checked.firsts_are parts.0) in
    let all = all_names patterns ok group values value 1 checked parts.1 first in
    let few = all.few in
    (all.is_named_so, omega (arith, few), own (or_all value values) all.is_ok)

pub fewest_1 : AreFewest group_1
fewest_1 = fewest of_1 group_1 record {
  firsts_are = first_1;
  step_is = λ word ok.
      let both_are = both (nat_le 3584 word && nat_lt word 3840) (are_of group_1 (values_of (patterns_of word patterns))) ok in
      let parts = both (nat_le 3584 word) (nat_lt word 3840) both_are.0 in
      let low = at_most 3584 word parts.0 in
      let high = below word 3840 parts.1 in
      subst (λ n. step_of patterns of_1 group_1 n ≡ true) (back 3584 word low) (step_at patterns of_1 group_1 3584 256 (word - 3584) steps_1 (omega (arith, low, high)));
} (λ word ok. (both (nat_le 3584 word && nat_lt word 3840) (are_of group_1 (values_of (patterns_of word patterns))) ok).1)
  where
    below : (a b : ℕ) → nat_lt a b ≡ true → a < b
    below a b e = grind (arith, nat_tests)

    back : (base word : ℕ) → base ≤ word → base + (word - base) ≡ word
    back base word low = omega (arith, low)

pub fewest_2 : AreFewest group_2
fewest_2 = fewest of_2 group_2 record {
  firsts_are = first_2;
  step_is = λ word ok.
      let range = in_range word (both (nat_eq word 3712 || (nat_le 3840 word && nat_lt word 4096)) (are_of group_2 (values_of (patterns_of word patterns))) ok).0 in
      let low = range.0 in
      let high = range.1 in
      subst (λ n. step_of patterns of_2 group_2 n ≡ true) (back 3712 word low) (step_at patterns of_2 group_2 3712 384 (word - 3712) steps_2 (omega (arith, low, high)));
} (λ word ok. (both (nat_eq word 3712 || (nat_le 3840 word && nat_lt word 4096)) (are_of group_2 (values_of (patterns_of word patterns))) ok).1)
  where
    in_range : (word : ℕ) → (nat_eq word 3712 || (nat_le 3840 word && nat_lt word 4096)) ≡ true → (3712 ≤ word) × (word < 4096)
    in_range word e = grind (arith, nat_tests)

    back : (base word : ℕ) → base ≤ word → base + (word - base) ≡ word
    back base word low = omega (arith, low)
