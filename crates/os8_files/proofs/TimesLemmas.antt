-- How often names are held.
use Rattle.std.proofs.Common.{◌≡◌, ◌∙◌, ℕ, ◌+◌, ◌<◌, ◌≤◌, ◌==◌, nat_lt, Bool, true, false, if◌then◌else◌, inl, inr, List, [], ◌∷◌, refl, ap, sym, subst, arith}
use Rattle.std.specs.Prelude.{◌⊎◌}
use Rattle.std.proofs.lemmas.Bool.Decides.{eqb_tells, leb_tells, nat_tests}
use Rattle.os8_dir.specs.Entries.{contains}
use Rattle.os8_files.specs.Holds.{with_hold, without_hold, times}

some-more : (n : ℕ) → 1 ≤ n → nat_lt 0 n ≡ true
some-more n some = elim (leb_tells 1 n) [ inl h ↦ h.0 | inr h ↦ absurd (never h.1) ]
  where
    never : n < 1 → ⊥
    never low = omega (arith, low, some)

-- A name stands in a list where it stands there at least once.
pub contains-times : (name : ℕ) (l : List ℕ) → contains l name ≡ nat_lt 0 (times name l)
contains-times name [] = refl
contains-times name (y ∷ ys) = by (y == name) (contains-times name ys)
  where
    by : (test : Bool) → contains ys name ≡ nat_lt 0 (times name ys) → (if test then true else contains ys name) ≡ nat_lt 0 ((if test then 1 else 0) + times name ys)
    by true rest = sym (some-more (1 + times name ys) (omega arith))
    by false rest =
        let none : 0 + times name ys ≡ times name ys = omega arith in
        rest ∙ ap (λ n. nat_lt 0 n) (sym none)

-- One hold more.
pub times-taken : (name hold : ℕ) (holds : List ℕ) → times name (with_hold hold holds) ≡ times name (hold ∷ []) + times name holds
times-taken name hold [] = omega arith
times-taken name hold (other ∷ holds) = by (nat_lt other hold) (times-taken name hold holds)
  where
    by : (test : Bool) → times name (with_hold hold holds) ≡ times name (hold ∷ []) + times name holds
        → times name (if test then other ∷ with_hold hold holds else hold ∷ other ∷ holds) ≡ times name (hold ∷ []) + times name (other ∷ holds)
    by true rest = omega (arith, rest)
    by false rest = omega arith

-- One hold less of a name that is held.
pub times-released : (name hold : ℕ) (holds : List ℕ) → 1 ≤ times hold holds → times name (hold ∷ []) + times name (without_hold hold holds) ≡ times name holds
times-released name hold [] some = absurd (omega (arith, some))
times-released name hold (other ∷ holds) some = elim (eqb_tells other hold) [
  | inl h ↦ subst (λ b. times name (hold ∷ []) + times name (if b then holds else other ∷ without_hold hold holds) ≡ times name (other ∷ holds)) (sym h.0) (first h.1)
  | inr h ↦ subst (λ b. times name (hold ∷ []) + times name (if b then holds else other ∷ without_hold hold holds) ≡ times name (other ∷ holds)) (sym h.0)
      (following (times-released name hold holds (subst (λ b. 1 ≤ (if b then 1 else 0) + times hold holds → 1 ≤ times hold holds) (sym h.0) (λ more. omega (arith, more)) some)))
]
  where
    first : other ≡ hold → times name (hold ∷ []) + times name holds ≡ times name (other ∷ holds)
    first same = subst (λ o. times name (hold ∷ []) + times name holds ≡ times name (o ∷ holds)) (sym same) (omega arith)

    following : times name (hold ∷ []) + times name (without_hold hold holds) ≡ times name holds → times name (hold ∷ []) + times name (other ∷ without_hold hold holds) ≡ times name (other ∷ holds)
    following rest = omega (arith, rest)

-- In which order two holds are taken is all one.
abbrev put : ℕ → ℕ → List ℕ → Bool → List ℕ
put name other holds test = if test then other ∷ with_hold name holds else name ∷ other ∷ holds

put-test : (name other : ℕ) (holds : List ℕ) (b : Bool) → nat_lt other name ≡ b → with_hold name (other ∷ holds) ≡ put name other holds b
put-test name other holds b is = ap (put name other holds) is

tells : (a b : ℕ) → ((nat_lt a b ≡ true) × (a < b)) ⊎ ((nat_lt a b ≡ false) × (b ≤ a))
tells a b = elim (leb_tells (a + 1) b) [ inl h ↦ inl (less h.1, omega (arith, h.1)) | inr h ↦ inr (more h.1, omega (arith, h.1)) ]
  where
    less : a + 1 ≤ b → nat_lt a b ≡ true
    less is = grind (arith, nat_tests, is)

    more : b < a + 1 → nat_lt a b ≡ false
    more is = grind (arith, nat_tests, is)

-- the lower of two is put before the higher, wherever that is put
lower-first : (low high : ℕ) (holds : List ℕ) → low < high → with_hold low (with_hold high holds) ≡ with_hold high (with_hold low holds)
lower-first low high [] less = elim (tells high low) [
  | inl over ↦ absurd (omega (arith, less, over.1))
  | inr under ↦ put-test low high [] false under.0 ∙ elim (tells low high) [
    | inl below ↦ sym (put-test high low [] true below.0)
    | inr above ↦ absurd (omega (arith, less, above.1))
  ]
]
lower-first low high (other ∷ holds) less = elim (tells other low) [
  | inl under ↦ elim (tells other high) [
    | inl below ↦ ap (with_hold low) (put-test high other holds true below.0) ∙ put-test low other (with_hold high holds) true under.0
        ∙ ap (λ l. other ∷ l) (lower-first low high holds less)
        ∙ sym (ap (with_hold high) (put-test low other holds true under.0) ∙ put-test high other (with_hold low holds) true below.0)
    | inr above ↦ absurd (omega (arith, less, under.1, above.1))
  ]
  | inr over ↦ elim (tells low high) [
    | inl between ↦ elim (tells other high) [
      | inl below ↦ ap (with_hold low) (put-test high other holds true below.0) ∙ put-test low other (with_hold high holds) false over.0
          ∙ sym (ap (with_hold high) (put-test low other holds false over.0) ∙ put-test high low (other ∷ holds) true between.0 ∙ ap (λ l. low ∷ l) (put-test high other holds true below.0))
      | inr above ↦ elim (tells high low) [
        | inl wrong ↦ absurd (omega (arith, less, wrong.1))
        | inr right ↦ ap (with_hold low) (put-test high other holds false above.0) ∙ put-test low high (other ∷ holds) false right.0
            ∙ sym (ap (with_hold high) (put-test low other holds false over.0) ∙ put-test high low (other ∷ holds) true between.0 ∙ ap (λ l. low ∷ l) (put-test high other holds false above.0))
      ]
    ]
    | inr wrong ↦ absurd (omega (arith, less, wrong.1))
  ]
]

pub holds-order : (one two : ℕ) (holds : List ℕ) → with_hold one (with_hold two holds) ≡ with_hold two (with_hold one holds)
holds-order one two holds = elim (tells one two) [
  | inl less ↦ lower-first one two holds less.1
  | inr more ↦ elim (eqb_tells one two) [
    | inl same ↦ ap (λ n. with_hold n (with_hold two holds)) same.1 ∙ ap (λ n. with_hold two (with_hold n holds)) (sym same.1)
    | inr other ↦ sym (lower-first two one holds (omega (arith, more.1, other.1)))
  ]
]
