-- The tags of cells as names: they rise with their cells, and none of them is a name of the language.
use Rattle.std.proofs.Common.{◌≡◌, ℕ, ◌+◌, ◌*◌, ◌/◌, ◌%◌, ◌<◌, ◌≤◌, nat_eq, nat_lt, nat_le, Bool, true, false, ◌&&◌, ◌||◌, ◌⊎◌, inl, inr, Option, Some, None, cond, unwrap_or, zero, suc, List, [], ◌∷◌, refl, ap, sym, ◌∙◌, arith}
use Rattle.std.specs.Prelude.{codes}
use Rattle.std.specs.Cmp.{unsigned_tied}
use Rattle.std.specs.FinMap.{find}
use Rattle.std.specs.Ordering.{nat_cmp}
use Rattle.std.proofs.lemmas.Bool.Decides.{eqb_tells, leb_tells, nat_tests}
use Rattle.word12.specs.Octal.{octal_digit}
use Rattle.word12.specs.Sixbit.{is_letter, is_digit, sixbit_code, name_number}
use Rattle.pal_lex.specs.Language.{is_reserved}
use Rattle.pal_sym.specs.Permanent.{permanent, permanent_names}
use Rattle.tape_source.specs.Tags.{tag}
use Rattle.tape_source.specs.Looks.{is_name, IsNaming, or_tag, name_or_tag, AreOwnNames}
use Rattle.tape_source.proofs.ByteLemmas.{both, octal, coded4}

-- ## A tag is a name

pub tag_is_name : (cell : ℕ) → is_name (tag cell) ≡ true
tag_is_name cell =
    let field = octal (cell / 4096) in
    rw (field.coded, coded4 (cell % 4096)) refl

-- ## Its number

abbrev tag_name : ℕ → ℕ
tag_name cell = name_number (tag cell)

digit_code : (n : ℕ) → unwrap_or (sixbit_code (octal_digit n)) 0 ≡ octal_digit n
digit_code n =
    let is = octal n in
    let digit = other (is_letter (octal_digit n)) (is_digit (octal_digit n)) is.letter is.coded in
    rw (is.letter, digit) refl
  where
    other : (a b : Bool) → a ≡ false → (a || b) ≡ true → b ≡ true
    other false b e f = f
    other true b e f = absurd (cc e)

-- a name that begins with `A`, by the codes of five characters after it
abbrev named_by : ℕ → ℕ → ℕ → ℕ → ℕ → ℕ
named_by f a b c d = 1073741824 * 1 + 16777216 * f + 262144 * a + 4096 * b + 64 * c + d

tag_digits : (cell : ℕ)
    → tag_name cell ≡ named_by (octal_digit (cell / 4096)) (octal_digit (cell % 4096 / 512)) (octal_digit (cell % 4096 / 64)) (octal_digit (cell % 4096 / 8)) (octal_digit (cell % 4096))
tag_digits cell =
    rw (digit_code (cell / 4096), digit_code (cell % 4096 / 512), digit_code (cell % 4096 / 64), digit_code (cell % 4096 / 8), digit_code (cell % 4096)) refl

-- ## Tags rise with their cells

-- so many octal digits of a number, as digits to the base 64
abbrev spread : ℕ → ℕ → ℕ
spread zero n = 0
spread (suc count) n = 64 * spread count (n / 8) + n % 8

abbrev eights : ℕ → ℕ
eights zero = 1
eights (suc count) = 8 * eights count

spread_rises : (count n m : ℕ) → m < eights count → n < m → spread count n < spread count m
spread_rises zero n m small less = absurd (omega (arith, small, less))
spread_rises (suc count) n m small less =
    elim (eqb_tells (n / 8) (m / 8)) [
      | inl same ↦ let e = same.1 in last (spread count (n / 8)) (spread count (m / 8)) (n % 8) (m % 8) (ap (spread count) e) (omega (arith, less, e))
      | inr other ↦
          let ne = other.1 in
          let prefix = spread_rises count (n / 8) (m / 8) (omega (arith, small)) (omega (arith, less, ne)) in
          omega (arith, prefix)
    ]
  where
    last : (x y c d : ℕ) → x ≡ y → c < d → 64 * x + c < 64 * y + d
    last x y c d e less = omega (arith, e, less)

-- a tag's number is that of `A00000` and the digits to the base 64
tag_spread : (cell : ℕ) → cell < 32768 → tag_name cell ≡ 1891830832 + spread 5 cell
tag_spread cell small = tag_digits cell ∙ whole cell small
  where
    joined : (f a b c d f' a' b' c' d' : ℕ) → f ≡ f' → a ≡ a' → b ≡ b' → c ≡ c' → d ≡ d'
        → named_by (48 + f') (48 + a') (48 + b') (48 + c') (48 + d') ≡ 1891830832 + (64 * (64 * (64 * (64 * (64 * 0 + f) + a) + b) + c) + d)
    joined f a b c d f' a' b' c' d' p q r s t = omega (arith, p, q, r, s, t)

    whole : (cell : ℕ) → cell < 32768
        → named_by (octal_digit (cell / 4096)) (octal_digit (cell % 4096 / 512)) (octal_digit (cell % 4096 / 64)) (octal_digit (cell % 4096 / 8)) (octal_digit (cell % 4096))
        ≡ 1891830832 + spread 5 cell
    whole cell small =
        let f : cell / 8 / 8 / 8 / 8 % 8 ≡ cell / 4096 % 8 = omega (arith, small) in
        let a : cell / 8 / 8 / 8 % 8 ≡ cell % 4096 / 512 % 8 = omega (arith, small) in
        let b : cell / 8 / 8 % 8 ≡ cell % 4096 / 64 % 8 = omega (arith, small) in
        let c : cell / 8 % 8 ≡ cell % 4096 / 8 % 8 = omega (arith, small) in
        let d : cell % 8 ≡ cell % 4096 % 8 = omega (arith, small) in
        joined (cell / 8 / 8 / 8 / 8 % 8) (cell / 8 / 8 / 8 % 8) (cell / 8 / 8 % 8) (cell / 8 % 8) (cell % 8) _ _ _ _ _ f a b c d

tags_rise : (a b : ℕ) → a < b → b < 32768 → tag_name a < tag_name b
tags_rise a b less small =
    let rise = spread_rises 5 a b small less in
    let below = tag_spread a (omega (arith, less, small)) in
    let above = tag_spread b small in
    higher (tag_name a) (tag_name b) (spread 5 a) (spread 5 b) below above rise
  where
    higher : (m n x y : ℕ) → m ≡ 1891830832 + x → n ≡ 1891830832 + y → x < y → m < n
    higher m n x y e f less = omega (arith, e, f, less)

pub tags_differ : (a b : ℕ) → a < 32768 → b < 32768 → tag_name a ≡ tag_name b → a ≡ b
tags_differ a b small little same =
    elim (eqb_tells a b) [
      | inl is ↦ is.1
      | inr other ↦ absurd (elim (either a b other.1) [
        | inl less ↦ let rise = tags_rise a b less little in omega (arith, rise, same)
        | inr more ↦ let rise = tags_rise b a more small in omega (arith, rise, same)
      ])
    ]
  where
    strict : (a b : ℕ) → (a ≡ b → ⊥) → b ≤ a → b < a
    strict a b ne high = grind arith

    either : (a b : ℕ) → (a ≡ b → ⊥) → (a < b) ⊎ (b < a)
    either a b ne = elim (leb_tells b a) [ inl high ↦ inr (strict a b ne high.1) | inr low ↦ inl low.1 ]

-- ## It is no name of the language

-- from `A0` on, and below `A8`
record IsBetween (n : ℕ) : Type 0 where
  low : 1879048192 ≤ n
  high : n < 2013265920

tag_between : (cell : ℕ) → IsBetween (tag_name cell)
tag_between cell =
    let is = tag_digits cell in
    record {
      low = low (tag_name cell) (cell / 4096) (cell % 4096 / 512) (cell % 4096 / 64) (cell % 4096 / 8) (cell % 4096) is;
      high = high (tag_name cell) (cell / 4096) (cell % 4096 / 512) (cell % 4096 / 64) (cell % 4096 / 8) (cell % 4096) is;
    }
  where
    low : (n f a b c d : ℕ) → n ≡ named_by (octal_digit f) (octal_digit a) (octal_digit b) (octal_digit c) (octal_digit d) → 1879048192 ≤ n
    low n f a b c d e = omega (arith, e)

    high : (n f a b c d : ℕ) → n ≡ named_by (octal_digit f) (octal_digit a) (octal_digit b) (octal_digit c) (octal_digit d) → n < 2013265920
    high n f a b c d e = omega (arith, e)

-- names before `A0`, or from `A8` on
abbrev are_clear : List (ℕ × ℕ) → Bool
are_clear [] = true
are_clear (entry ∷ others) = (nat_lt entry.0 1879048192 || nat_le 2013265920 entry.0) && are_clear others

apart : (n m : ℕ) → IsBetween n → (nat_lt m 1879048192 || nat_le 2013265920 m) ≡ true → nat_eq n m ≡ false
apart n m between clear =
    elim (eqb_tells n m) [
      | inl same ↦ absurd (let low = between.low in let high = between.high in let e = same.1 in outside n m low high e clear)
      | inr other ↦ other.0
    ]
  where
    outside : (n m : ℕ) → 1879048192 ≤ n → n < 2013265920 → n ≡ m → (nat_lt m 1879048192 || nat_le 2013265920 m) ≡ true → ⊥
    outside n m low high e clear = grind (arith, nat_tests)

not_found : (n : ℕ) (entries : List (ℕ × ℕ)) → IsBetween n → are_clear entries ≡ true → find nat_cmp n entries ≡ None
not_found n [] between clear = refl
not_found n (entry ∷ others) between clear =
    let parts = both (nat_lt entry.0 1879048192 || nat_le 2013265920 entry.0) (are_clear others) clear in
    ap (λ (b : Bool). cond b (Some entry.1) (find nat_cmp n others)) (unsigned_tied n entry.0 ∙ apart n entry.0 between parts.0)
    ∙ not_found n others between parts.1

pub tag_not_permanent : (cell : ℕ) → permanent (tag_name cell) ≡ None
unfolding permanent
tag_not_permanent cell = not_found (tag_name cell) permanent_names (tag_between cell) refl

tag_not_reserved : (cell : ℕ) → is_reserved (tag_name cell) ≡ false
tag_not_reserved cell =
    let n = tag_name cell in
    let is = tag_between cell in
    let decimal = apart n (name_number (codes "DECIMA")) is refl in
    let octal = apart n (name_number (codes "OCTAL")) is refl in
    let field = apart n (name_number (codes "FIELD")) is refl in
    let pause = apart n (name_number (codes "PAUSE")) is refl in
    let i = apart n (name_number (codes "I")) is refl in
    let z = apart n (name_number (codes "Z")) is refl in
    none _ _ _ _ _ _ decimal octal field pause i z
  where
    none : (a b c d e f : Bool) → a ≡ false → b ≡ false → c ≡ false → d ≡ false → e ≡ false → f ≡ false → (a || b || c || d || e || f) ≡ false
    none a b c d e f p q r s t u = rw (p, q, r, s, t, u) refl

-- tags are names of their own
pub tag_naming : IsNaming tag
tag_naming = record {
  are_names = λ cell small. tag_is_name cell;
  differ = tags_differ;
  not_permanent = λ cell small. tag_not_permanent cell;
  not_reserved = λ cell small. tag_not_reserved cell;
}

-- ## Names that some cells are given

either_name : (Is : List ℕ → Type 0) (given : Option (List ℕ)) (cell : ℕ) → ((name : List ℕ) → given ≡ Some name → Is name) → Is (tag cell) → Is (or_tag given cell)
either_name Is None cell named tagged = tagged
either_name Is (Some name) cell named tagged = named name refl

pub given_naming : (given : ℕ → Option (List ℕ)) → AreOwnNames given → IsNaming (name_or_tag given)
given_naming given own = record {
  are_names = λ cell small. either_name (λ n. is_name n ≡ true) (given cell) cell (λ name e. own.are_names cell name small e) (tag_is_name cell);
  differ = λ a b small little.
      either_name (λ n. name_number n ≡ name_number (or_tag (given b) b) → a ≡ b) (given a) a
      (λ name e.
      either_name (λ m. name_number name ≡ name_number m → a ≡ b) (given b) b (λ other f same. own.differ a b name other small little e f same)
      (λ same. absurd (own.no_tags a b name small little e same)))
      (either_name (λ m. tag_name a ≡ name_number m → a ≡ b) (given b) b (λ other f same. absurd (own.no_tags b a other little small f (sym same)))
      (λ same. tags_differ a b small little same));
  not_permanent = λ cell small.
      either_name (λ n. permanent (name_number n) ≡ None) (given cell) cell (λ name e. own.not_permanent cell name small e) (tag_not_permanent cell);
  not_reserved = λ cell small.
      either_name (λ n. is_reserved (name_number n) ≡ false) (given cell) cell (λ name e. own.not_reserved cell name small e) (tag_not_reserved cell);
}
