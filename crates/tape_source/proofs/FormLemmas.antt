-- Tags are what has the form of a tag.
use Rattle.std.proofs.Common.{◌≡◌, inl, inr, ℕ, suc, ◌+◌, ◌-◌, ◌*◌, ◌/◌, ◌%◌, ◌≤◌, ◌<◌, nat_eq, nat_le, nat_lt, Bool, true, false, true≢false, ◌&&◌, if◌then◌else◌, None, is_some, List, [], ◌∷◌, length, refl, ap, sym, ◌∙◌, arith}
use Rattle.std.proofs.lemmas.Bool.{and_from, and_parts, eqb-true, le-leb, leb-true, lt-ltb, ltb-true}
use Rattle.std.proofs.lemmas.Bool.Decides.{eqb_tells}
use Rattle.word12.specs.declared.sizes.TheConstants.{CORE, FIELD}
use Rattle.word12.specs.Octal.{octal5, octal_digit, octal_from, octal_of}
use Rattle.source_names.specs.Names.{has_tag_form}
use Rattle.tape_source.specs.Tags.{tag}
use Rattle.tape_source.specs.Looks.{IsTagOf}

-- ## The form of a tag

goes_on : (n a : ℕ) (digits : List ℕ) → octal_from n (octal_digit a ∷ digits) ≡ octal_from (8 * n + (octal_digit a - 0o60)) digits
goes_on n a digits =
    ap (λ (b : Bool). if b then octal_from (8 * n + (octal_digit a - 0o60)) digits else None)
    (and_from (nat_le 0o60 (octal_digit a)) (nat_lt (octal_digit a) 0o70) (le-leb 0o60 (octal_digit a) (omega arith)) (lt-ltb (octal_digit a) 0o70 (omega arith)))

-- after any number digits go on to one
abbrev AreDigits : List ℕ → Type 0
AreDigits digits = (n : ℕ) → is_some (octal_from n digits) ≡ true

one_more : (a : ℕ) (digits : List ℕ) → AreDigits digits → AreDigits (octal_digit a ∷ digits)
one_more a digits are n = ap (λ o. is_some o) (goes_on n a digits) ∙ are (8 * n + (octal_digit a - 0o60))

are_digits : (a b c d e : ℕ) → AreDigits (octal_digit a ∷ octal_digit b ∷ octal_digit c ∷ octal_digit d ∷ octal_digit e ∷ [])
are_digits a b c d e =
    one_more a (octal_digit b ∷ octal_digit c ∷ octal_digit d ∷ octal_digit e ∷ [])
    (one_more b (octal_digit c ∷ octal_digit d ∷ octal_digit e ∷ [])
    (one_more c (octal_digit d ∷ octal_digit e ∷ []) (one_more d (octal_digit e ∷ []) (one_more e [] (λ n. refl)))))

pub tag_form : (cell : ℕ) → has_tag_form (tag cell) ≡ true
tag_form cell = are_digits (cell / FIELD) (cell % FIELD / 0o1000) (cell % FIELD / 0o100) (cell % FIELD / 8) (cell % FIELD) 0

-- ## What has it is one

-- the first of digits, and those after it
first_digit : (n a : ℕ) (digits : List ℕ) → is_some (octal_from n (a ∷ digits)) ≡ true
    → (0o60 ≤ a) × (a < 0o70) × (is_some (octal_from (8 * n + (a - 0o60)) digits) ≡ true)
first_digit n a digits some = split (nat_le 0o60 a && nat_lt a 0o70) refl some
  where
    split : (b : Bool) → (nat_le 0o60 a && nat_lt a 0o70) ≡ b → is_some (if b then octal_from (8 * n + (a - 0o60)) digits else None) ≡ true
        → (0o60 ≤ a) × (a < 0o70) × (is_some (octal_from (8 * n + (a - 0o60)) digits) ≡ true)
    split true is some =
        let parts = and_parts (nat_le 0o60 a) (nat_lt a 0o70) is in (leb-true 0o60 a parts.0, ltb-true a 0o70 parts.1, some)
    split false is some = absurd (true≢false (sym some))

spelled : (x y z u v : ℕ) → x < 8 → y < 8 → z < 8 → u < 8 → v < 8
    → octal5 (0o10000 * x + 0o1000 * y + 0o100 * z + 8 * u + v) ≡ (0o60 + x) ∷ (0o60 + y) ∷ (0o60 + z) ∷ (0o60 + u) ∷ (0o60 + v) ∷ []
spelled x y z u v a b c d e =
    five (omega (arith, a, b, c, d, e)) (omega (arith, a, b, c, d, e)) (omega (arith, a, b, c, d, e)) (omega (arith, a, b, c, d, e))
    (omega (arith, a, b, c, d, e))
  where
    five : {a b c d e a' b' c' d' e' : ℕ} → a ≡ a' → b ≡ b' → c ≡ c' → d ≡ d' → e ≡ e' → a ∷ b ∷ c ∷ d ∷ e ∷ [] ≡ a' ∷ b' ∷ c' ∷ d' ∷ e' ∷ []
    five p q r s t = cc

of_digits : (a b c d e : ℕ) → is_some (octal_from 0 (a ∷ b ∷ c ∷ d ∷ e ∷ [])) ≡ true → IsTagOf (0o101 ∷ a ∷ b ∷ c ∷ d ∷ e ∷ [])
of_digits a b c d e some =
    let p = first_digit 0 a (b ∷ c ∷ d ∷ e ∷ []) some in
    let q = first_digit _ b (c ∷ d ∷ e ∷ []) p.2 in
    let r = first_digit _ c (d ∷ e ∷ []) q.2 in
    let s = first_digit _ d (e ∷ []) r.2 in
    let t = first_digit _ e [] s.2 in
    whole (a - 0o60) (b - 0o60) (c - 0o60) (d - 0o60) (e - 0o60) (back a p.0) (back b q.0) (back c r.0) (back d s.0) (back e t.0)
    (low a p.1) (low b q.1) (low c r.1) (low d s.1) (low e t.1)
  where
    back : (a : ℕ) → 0o60 ≤ a → 0o60 + (a - 0o60) ≡ a
    back a least = omega (arith, least)

    low : (a : ℕ) → a < 0o70 → a - 0o60 < 8
    low a most = omega (arith, most)

    small : (x y z u v : ℕ) → x < 8 → y < 8 → z < 8 → u < 8 → v < 8 → 0o10000 * x + 0o1000 * y + 0o100 * z + 8 * u + v < CORE
    small x y z u v a b c d e = omega (arith, a, b, c, d, e)

    six : {a b c d e a' b' c' d' e' : ℕ} → a ≡ a' → b ≡ b' → c ≡ c' → d ≡ d' → e ≡ e'
        → 0o101 ∷ a ∷ b ∷ c ∷ d ∷ e ∷ [] ≡ 0o101 ∷ a' ∷ b' ∷ c' ∷ d' ∷ e' ∷ []
    six p q r s t = cc

    whole : (x y z u v : ℕ) → 0o60 + x ≡ a → 0o60 + y ≡ b → 0o60 + z ≡ c → 0o60 + u ≡ d → 0o60 + v ≡ e → x < 8 → y < 8 → z < 8 → u < 8 → v < 8
        → IsTagOf (0o101 ∷ a ∷ b ∷ c ∷ d ∷ e ∷ [])
    whole x y z u v f g h i j k l m n o = record {
      cell = 0o10000 * x + 0o1000 * y + 0o100 * z + 8 * u + v;
      small = small x y z u v k l m n o;
      is = ap (λ l. 0o101 ∷ l) (spelled x y z u v k l m n o) ∙ six f g h i j;
    }

none : (digits : List ℕ) → is_some (if nat_eq (length digits) 5 then octal_from 0 digits else None) ≡ true → nat_eq (length digits) 5 ≡ false → ⊥
none digits some short = true≢false (sym some ∙ ap (λ (b : Bool). is_some (if b then octal_from 0 digits else None)) short)

longer : (n : ℕ) → nat_eq (suc (suc (suc (suc (suc (suc n)))))) 5 ≡ false
longer n = elim (eqb_tells (suc (suc (suc (suc (suc (suc n)))))) 5) [ inl same ↦ absurd (let e = same.1 in omega (arith, e)) | inr other ↦ other.0 ]

pub form_is_tag : (name : List ℕ) → has_tag_form name ≡ true → IsTagOf name
form_is_tag [] form = absurd (true≢false (sym form))
form_is_tag (first ∷ others) form =
    let parts = and_parts (nat_eq first 0o101) (is_some (octal_of 5 others)) form in
    by_digits first others (eqb-true first 0o101 parts.0) parts.1
  where
    by_digits : (first : ℕ) (others : List ℕ) → first ≡ 0o101 → is_some (octal_of 5 others) ≡ true → IsTagOf (first ∷ others)
    by_digits first [] same some = absurd (none [] some refl)
    by_digits first (a ∷ []) same some = absurd (none (a ∷ []) some refl)
    by_digits first (a ∷ b ∷ []) same some = absurd (none (a ∷ b ∷ []) some refl)
    by_digits first (a ∷ b ∷ c ∷ []) same some = absurd (none (a ∷ b ∷ c ∷ []) some refl)
    by_digits first (a ∷ b ∷ c ∷ d ∷ []) same some = absurd (none (a ∷ b ∷ c ∷ d ∷ []) some refl)
    by_digits first (a ∷ b ∷ c ∷ d ∷ e ∷ []) same some = rw same (of_digits a b c d e some)
    by_digits first (a ∷ b ∷ c ∷ d ∷ e ∷ f ∷ more) same some = absurd (none (a ∷ b ∷ c ∷ d ∷ e ∷ f ∷ more) some (longer (length more)))
