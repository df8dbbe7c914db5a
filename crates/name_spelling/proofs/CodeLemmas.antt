-- Codes that are spelled are read as they are.
use Rattle.std.proofs.Common.{◌≡◌, ℕ, ◌+◌, ◌-◌, ◌*◌, ◌/◌, ◌%◌, ◌<◌, nat_eq, nat_lt, Bool, true, false, true≢false, ◌&&◌, if◌then◌else◌, inl, inr, Some, None, List, [], ◌∷◌, ◌++◌, length, drop, length-drop, refl, ap, sym, ◌∙◌, arith}
use Rattle.std.specs.Prelude.{nat_le}
use Rattle.std.proofs.lemmas.List.{drop-drop}
use Rattle.std.proofs.lemmas.Bool.Decides.{eqb_tells, nat_tests}
use Rattle.word12.specs.Octal.{octal_digit, octal_of}
use Rattle.word12.specs.Sixbit.{sixbit_code, is_letter, is_digit}
use Rattle.name_spelling.specs.Spelling.{all_zero, is_digit_code, is_letter_code, spelled_code, spelled_codes}
use Rattle.name_spelling.specs.Reading.{last_in, next_code, taking, with_high, with_low, word_in}

abbrev pub AreCodes : List ℕ → Type 0
AreCodes [] = Unit {0}
AreCodes (code ∷ codes) = (code < 64) × AreCodes codes

is_zero : (c : ℕ) → nat_eq c 0 ≡ true → c ≡ 0
is_zero c e = elim (eqb_tells c 0) [ inl same ↦ same.1 | inr other ↦ absurd (true≢false (sym e ∙ other.0)) ]

-- ## One code

plain_code : (c : ℕ) (t : List ℕ) → nat_eq c 95 ≡ false → next_code (c ∷ t) ≡ taking 1 (sixbit_code c)
plain_code c [] other = refl
plain_code c (a ∷ []) other = refl
plain_code c (a ∷ b ∷ rest) other = ap (λ (t : Bool). if t then taking 3 (octal_of 2 (a ∷ b ∷ [])) else taking 1 (sixbit_code c)) other

letter_test : (c : ℕ) → is_letter_code c ≡ true → is_letter (c + 64) ≡ true
letter_test c e = grind (arith, nat_tests)

letter_apart : (c : ℕ) → is_letter_code c ≡ true → nat_eq (c + 64) 95 ≡ false
letter_apart c e = grind (arith, nat_tests)

less_64 : (c : ℕ) → c + 64 - 64 ≡ c
less_64 c = omega arith

letter_code : (c : ℕ) → is_letter_code c ≡ true → sixbit_code (c + 64) ≡ Some c
letter_code c e =
    ap (λ (b : Bool). if b then Some (c + 64 - 64) else if is_digit (c + 64) then Some (c + 64) else None) (letter_test c e) ∙ ap (λ n. Some n) (less_64 c)

digit_no_letter : (c : ℕ) → is_digit_code c ≡ true → is_letter c ≡ false
digit_no_letter c e = grind (arith, nat_tests)

digit_apart : (c : ℕ) → is_digit_code c ≡ true → nat_eq c 95 ≡ false
digit_apart c e = grind (arith, nat_tests)

digit_code : (c : ℕ) → is_digit_code c ≡ true → sixbit_code c ≡ Some c
digit_code c e =
    ap (λ (b : Bool). if b then Some (c - 64) else if is_digit c then Some c else None) (digit_no_letter c e)
    ∙ ap (λ (b : Bool). if b then Some c else None) e

octal_test : (n : ℕ) → (nat_le 48 (48 + n % 8) && nat_lt (48 + n % 8) 56) ≡ true
octal_test n = grind (arith, nat_tests)

octal_value : (c : ℕ) → c < 64 → 8 * (8 * 0 + (48 + c / 8 % 8 - 48)) + (48 + c % 8 - 48) ≡ c
octal_value c small = omega (arith, small)

octal_back : (c : ℕ) → c < 64 → octal_of 2 (octal_digit (c / 8) ∷ octal_digit c ∷ []) ≡ Some c
octal_back c small =
    let high = 48 + c / 8 % 8 in
    let low = 48 + c % 8 in
    ap
    (λ (b : Bool).
    if b
    then (if nat_le 48 (48 + c % 8) && nat_lt (48 + c % 8) 56 then Some (8 * (8 * 0 + (48 + c / 8 % 8 - 48)) + (48 + c % 8 - 48)) else None)
    else None)
    (octal_test (c / 8))
    ∙ ap (λ (b : Bool). if b then Some (8 * (8 * 0 + (48 + c / 8 % 8 - 48)) + (48 + c % 8 - 48)) else None) (octal_test c)
    ∙ ap (λ n. Some n) (octal_value c small)

-- the next code of a text is this one, and after it stands the rest
pub record IsNext (code : ℕ) (text rest : List ℕ) : Type 0 where
  pub count : ℕ
  pub is : next_code text ≡ Some (code, count)
  pub following : drop count text ≡ rest

spelled_next : (c : ℕ) (t : List ℕ) → c < 64 → IsNext c (spelled_code c ++ t) t
spelled_next c t small = by_letter (is_letter_code c) refl
  where
    by_digit : (b : Bool) → is_digit_code c ≡ b → IsNext c ((if b then c ∷ [] else 95 ∷ octal_digit (c / 8) ∷ octal_digit c ∷ []) ++ t) t
    by_digit true e = record { count = 1; is = plain_code c t (digit_apart c e) ∙ ap (taking 1) (digit_code c e); following = refl }
    by_digit false e = record { count = 3; is = ap (taking 3) (octal_back c small); following = refl }

    by_letter : (b : Bool) → is_letter_code c ≡ b
        → IsNext c ((if b then (c + 64) ∷ [] else if is_digit_code c then c ∷ [] else 95 ∷ octal_digit (c / 8) ∷ octal_digit c ∷ []) ++ t) t
    by_letter true e = record { count = 1; is = plain_code (c + 64) t (letter_apart c e) ∙ ap (taking 1) (letter_code c e); following = refl }
    by_letter false e = by_digit (is_digit_code c) refl

zeros_after : (c : ℕ) (cs : List ℕ) → all_zero (c ∷ cs) ≡ true → (c ≡ 0) × (all_zero cs ≡ true)
zeros_after c cs e = by (nat_eq c 0) refl e
  where
    by : (b : Bool) → nat_eq c 0 ≡ b → (if b then all_zero cs else false) ≡ true → (c ≡ 0) × (all_zero cs ≡ true)
    by true z rest = (is_zero c z, rest)
    by false z rest = absurd (true≢false (sym rest))

nothing_spelled : (cs : List ℕ) → all_zero cs ≡ true → spelled_codes cs ≡ []
nothing_spelled [] e = refl
nothing_spelled (c ∷ cs) e = ap (λ (b : Bool). if b then [] else spelled_code c ++ spelled_codes cs) e

pub first_code : (c : ℕ) (cs : List ℕ) → c < 64 → IsNext c (spelled_codes (c ∷ cs)) (spelled_codes cs)
first_code c cs small = by (all_zero (c ∷ cs)) refl
  where
    by : (b : Bool) → all_zero (c ∷ cs) ≡ b → IsNext c (if b then [] else spelled_code c ++ spelled_codes cs) (spelled_codes cs)
    by true e =
        let parts = zeros_after c cs e in
        record { count = 0; is = ap (λ n. Some (n, 0)) (sym parts.0); following = sym (nothing_spelled cs parts.1) }
    by false e = spelled_next c (spelled_codes cs) small

-- ## Words

-- the word of the next two codes of a text is this one
pub record IsWord (word : ℕ) (text rest : List ℕ) : Type 0 where
  pub count : ℕ
  pub is : word_in text ≡ Some (word, count)
  pub following : drop count text ≡ rest

pub first_word_in : (a b : ℕ) (cs : List ℕ) → a < 64 → b < 64 → IsWord (64 * a + b) (spelled_codes (a ∷ b ∷ cs)) (spelled_codes cs)
first_word_in a b cs small low =
    let high = first_code a (b ∷ cs) small in
    let next = first_code b cs low in
    let text = spelled_codes (a ∷ b ∷ cs) in
    record {
      count = high.count + next.count;
      is = ap (with_high text) high.is ∙ ap (λ t. with_low (a, high.count) (next_code t)) high.following ∙ ap (with_low (a, high.count)) next.is;
      following = sym (drop-drop next.count high.count text) ∙ ap (drop next.count) high.following ∙ next.following;
    }

-- after the last word nothing stands
pub last_word : (word : ℕ) (text : List ℕ) → IsWord word text [] → last_in text (word_in text) ≡ Some word
last_word word text is =
    ap (last_in text) is.is ∙ ap (λ (b : Bool). if b then None else Some word) (all_read is.count text (ap length is.following))
  where
    all_read : (count : ℕ) (text : List ℕ) → length (drop count text) ≡ 0 → nat_lt count (length text) ≡ false
    all_read count text none = grind (arith, nat_tests, length-drop, none)
