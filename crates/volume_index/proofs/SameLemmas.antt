-- In the order of digests a line has the digest of a line beside it exactly where another line has it.
use Rattle.std.proofs.Common.{◌≡◌, ◌∙◌, ℕ, zero, suc, ◌+◌, ◌<◌, ◌≤◌, inl, inr, Bool, ◌||◌, nat_lt, if◌then◌else◌, Option, None, Some, List, [], ◌∷◌, ◌++◌, refl, ap, sym, subst, arith}
use Rattle.std.proofs.lemmas.Bool.{cases_eq, eq-eqb, ne_eqb, lt-ltb}
use Rattle.std.proofs.lemmas.List.Sorted.{IsNonDecreasingBy-from_sort}
use Rattle.std.specs.List.Sorted.{IsNonDecreasingBy}
use Rattle.std.specs.Global.{Vec}
use Rattle.volume_index.specs.Digests.{digest_of}
use Rattle.volume_index.specs.Same.{AreByDigest, count_of, line_if, one_if, shared_text}
use Rattle.volume_index.specs.Steps.{is_before, is_next, near_text}

abbrev key : Vec ℕ → ℕ
key line = digest_of line.items

abbrev IsAbove : Option ℕ → ℕ → Type 0
IsAbove None digest = Unit {0}
IsAbove (Some before) digest = before ≤ digest

abbrev Rises : Option ℕ → List (Vec ℕ) → Type 0
Rises before [] = Unit {0}
Rises before (line ∷ lines) = IsAbove before (key line) × Rises (Some (key line)) lines

-- how often digests were met, of which this was the last and the greatest
abbrev AreMet : Option ℕ → (ℕ → ℕ) → Type 0
AreMet None met = (digest : ℕ) → met digest ≡ 0
AreMet (Some before) met = (0 < met before) × ((digest : ℕ) → before < digest → met digest ≡ 0)

other : (a b : ℕ) → b < a → one_if a b ≡ 0
other a b below = ap {B = ℕ} (λ (x : Bool). if x then 1 else 0) (ne_eqb a b (λ is. omega (arith, is, below)))

itself : (a : ℕ) → one_if a a ≡ 1
itself a = ap {B = ℕ} (λ (x : Bool). if x then 1 else 0) (eq-eqb a a refl)

none-below : (before : ℕ) (lines : List (Vec ℕ)) → Rises (Some before) lines → (digest : ℕ) → digest < before → count_of lines digest ≡ 0
none-below before [] rises digest below = refl
none-below before (line ∷ lines) (le, rises) digest below =
    omega (arith, other (key line) digest (omega (arith, le, below)), none-below (key line) lines rises digest (omega (arith, le, below)))

next-has : (lines : List (Vec ℕ)) (digest : ℕ) → Rises (Some digest) lines → is_next lines digest ≡ nat_lt 0 (count_of lines digest)
next-has [] digest rises = refl
next-has (line ∷ lines) digest (le, rises) = elim (cases_eq (key line) digest) [
  | inl is ↦ eq-eqb (key line) digest is ∙ sym (lt-ltb 0 (count_of (line ∷ lines) digest)
      (omega (arith, ap {B = ℕ} (λ (x : Bool). if x then 1 else 0) (eq-eqb (key line) digest is))))
  | inr ne ↦ ne_eqb (key line) digest ne ∙ sym (ap (λ n. nat_lt 0 n)
      (none digest le rises ne))
]
  where
    none : (digest : ℕ) → digest ≤ key line → Rises (Some (key line)) lines → (key line ≡ digest → ⊥) → count_of (line ∷ lines) digest ≡ 0
    none digest le rises ne =
        omega (arith, ap {B = ℕ} (λ (x : Bool). if x then 1 else 0) (ne_eqb (key line) digest ne), none-below (key line) lines rises digest (omega (arith, le, ne)))

before-had : (before : Option ℕ) (met : ℕ → ℕ) (digest : ℕ) → AreMet before met → IsAbove before digest → is_before before digest ≡ nat_lt 0 (met digest)
before-had None met digest none above = sym (ap (λ n. nat_lt 0 n) (none digest))
before-had (Some before) met digest (some, none) le = elim (cases_eq before digest) [
  | inl is ↦ eq-eqb before digest is ∙ sym (lt-ltb 0 (met digest) (subst (λ d. 0 < met d) is some))
  | inr ne ↦ ne_eqb before digest ne ∙ sym (ap (λ n. nat_lt 0 n) (none digest (omega (arith, le, ne))))
]

met-later : (before : Option ℕ) (met : ℕ → ℕ) (digest : ℕ) → AreMet before met → IsAbove before digest → (later : ℕ) → digest < later → met later ≡ 0
met-later None met digest none above later lt = none later
met-later (Some before) met digest (some, none) le later lt = none later (omega (arith, le, lt))

both : (a b : ℕ) → (nat_lt 0 a || nat_lt 0 b) ≡ nat_lt 1 (a + (1 + b))
both zero zero = refl
both zero (suc b) = lt-ltb 0 (suc b) (omega arith) ∙ sym (lt-ltb 1 (0 + (1 + suc b)) (omega arith))
both (suc a) b = ap (λ x. x || nat_lt 0 b) (lt-ltb 0 (suc a) (omega arith)) ∙ sym (lt-ltb 1 (suc a + (1 + b)) (omega arith))

near-shared : (before : Option ℕ) (lines : List (Vec ℕ)) (met all : ℕ → ℕ) → AreMet before met → Rises before lines
    → ((digest : ℕ) → all digest ≡ met digest + count_of lines digest) → near_text before lines ≡ shared_text all lines
near-shared before [] met all counts rises is = refl
near-shared before (line ∷ lines) met all counts (above, rises) is =
    ap (λ x. line_if x line.items ++ near_text (Some (key line)) lines) beside
    ∙ ap (λ text. line_if (nat_lt 1 (all (key line))) line.items ++ text)
    (near-shared (Some (key line)) lines (λ digest. met digest + one_if (key line) digest) all
    (omega (arith, itself (key line)), λ later lt. omega (arith, other-later later lt, met-later before met (key line) counts above later lt))
    rises (λ digest. omega (arith, is digest)))
  where
    other-later : (later : ℕ) → key line < later → one_if (key line) later ≡ 0
    other-later later lt = ap {B = ℕ} (λ (x : Bool). if x then 1 else 0) (ne_eqb (key line) later (λ same. omega (arith, same, lt)))

    beside : (is_before before (key line) || is_next lines (key line)) ≡ nat_lt 1 (all (key line))
    beside =
        ap (λ x. x || is_next lines (key line)) (before-had before met (key line) counts above)
        ∙ ap (λ x. nat_lt 0 (met (key line)) || x) (next-has lines (key line) rises)
        ∙ both (met (key line)) (count_of lines (key line))
        ∙ ap (λ n. nat_lt 1 n) (omega (arith, is (key line), itself (key line)))

abbrev is_first : Option ℕ → List (Vec ℕ) → Type 0
is_first before [] = Unit {0}
is_first before (line ∷ lines) = IsAbove before (key line)

rises_from : (before : Option ℕ) (lines : List (Vec ℕ)) → IsNonDecreasingBy key lines → is_first before lines → Rises before lines
rises_from before [] up first = tt
rises_from before (line ∷ []) up first = (first, tt)
rises_from before (line ∷ next ∷ lines) up first =
    (first, rises_from (Some (key line)) (next ∷ lines) (λ i j d le lt. up (suc i) (suc j) d (omega (arith, le)) (omega (arith, lt))) (up 0 1 line (omega arith) (omega arith)))

any-first : (lines : List (Vec ℕ)) → is_first None lines
any-first [] = tt
any-first (line ∷ lines) = tt

pub near_is_shared : (lines by_digest : List (Vec ℕ)) → AreByDigest lines by_digest → near_text None by_digest ≡ shared_text (count_of by_digest) by_digest
near_is_shared lines by_digest order =
    near-shared None by_digest (λ digest. 0) (count_of by_digest) (λ digest. refl)
    (rises_from None by_digest (IsNonDecreasingBy-from_sort key by_digest order.sorted) (any-first by_digest)) (λ digest. omega arith)
