-- Numbers are read as they are shown.
use Rattle.std.proofs.Common.{◌≡◌, ℕ, zero, suc, ◌+◌, ◌-◌, ◌*◌, ◌/◌, ◌%◌, ◌<◌, ◌≤◌, ◌&&◌, nat_le, nat_lt, if◌then◌else◌, true, false, Bool, List, [], ◌∷◌, ◌++◌, append_assoc, length, Option, Some, None, refl, ap, sym, ◌∙◌, subst, arith, inl, inr}
use Rattle.std.specs.Prelude.{decimal}
use Rattle.std.specs.List.{flat_map}
use Rattle.std.specs.Char.{digit_value}
use Rattle.std.specs.Str.Parse.{AllDigits, digits_value_after}
use Rattle.std.proofs.lemmas.Bool.Decides.{leb_tells, eqb_tells}
use Rattle.std.proofs.lemmas.Fmt.{decimal_is_IsNumeral, length-decimal-le}
use Rattle.std.proofs.lemmas.Str.{digit_value_digit}
use Rattle.std.proofs.lemmas.Str.Parse.{digit_from_value}
use Rattle.word12.specs.Sixbit.{sixbit_code, is_letter, is_digit}
use Rattle.os8_dir.specs.Names.{name_of, words_of_name, words_of_codes, with_end_zeros, before_dot, after_dot, codes_of, codes_within, with_code, name_of_codes, extension_codes, parsed_name}
use Rattle.word12.specs.Octal.{octal_digit, octal4, octal5, octal_from, octal_of}
use Rattle.script8.specs.Lines.{number_of, digits_from, within, cell_of, character_of}
use Rattle.script8.specs.Replies.{character_text}

both : (a b : Bool) → a ≡ true → b ≡ true → a && b ≡ true
both a b one two = rw (one, two) refl

-- digits that are read after a number
read_digits : (n : ℕ) (digits : List ℕ) → AllDigits 10 digits → digits_from n digits ≡ Some (digits_value_after 10 n digits)
read_digits n [] all = refl
read_digits n (c ∷ cs) (one, all) =
    let range = digit_from_value c one in
    ap (λ b. if b then digits_from (10 * n + (c - 48)) cs else None) (both (nat_le 48 c) (nat_lt c 58) (low c range.0) (high c range.1))
    ∙ ap (λ m. digits_from m cs) (same n c (digit_value c) (digit_value_digit c range)) ∙ read_digits (n * 10 + digit_value c) cs all
  where
    low : (c : ℕ) → 48 ≤ c → nat_le 48 c ≡ true
    low c most = elim (leb_tells 48 c) [ inl h ↦ h.0 | inr h ↦ absurd (omega (arith, most, h.1)) ]

    high : (c : ℕ) → c ≤ 57 → nat_lt c 58 ≡ true
    high c most = elim (leb_tells (suc c) 58) [ inl h ↦ h.0 | inr h ↦ absurd (omega (arith, most, h.1)) ]

    same : (n c digit : ℕ) → digit + 48 ≡ c → 10 * n + (c - 48) ≡ n * 10 + digit
    same n c digit is = omega (arith, is)

read_number : (digits : List ℕ) → 0 < length digits → length digits ≤ 7 → AllDigits 10 digits → number_of digits ≡ Some (digits_value_after 10 0 digits)
read_number [] some few all = absurd (omega (arith, some))
read_number (c ∷ cs) some few all = rw (short (length cs) few) (read_digits 0 (c ∷ cs) all)
  where
    short : (n : ℕ) → suc n ≤ 7 → nat_le n 6 ≡ true
    short n few = elim (leb_tells n 6) [ inl h ↦ h.0 | inr h ↦ absurd (omega (arith, few, h.1)) ]

pub number_as_shown : (number : ℕ) → number < 10000000 → number_of (decimal number) ≡ Some number
number_as_shown number small =
    let own = decimal_is_IsNumeral number (omega (arith, small)) in
    read_number (decimal number) own.0.0 (length-decimal-le 7 number (omega arith) small (omega (arith, small))) own.0.1 ∙ ap Some own.1

-- an octal digit that is read after a number
octal_digit_read : (v n : ℕ) (rest : List ℕ) → octal_from v (octal_digit n ∷ rest) ≡ octal_from (8 * v + n % 8) rest
octal_digit_read v n rest = by_digit (n % 8) (omega arith)
  where
    by_digit : (digit : ℕ) → digit < 8 → octal_from v ((48 + digit) ∷ rest) ≡ octal_from (8 * v + digit) rest
    by_digit digit small =
        ap (λ b. if b then octal_from (8 * v + (48 + digit - 48)) rest else None) (both (nat_le 48 (48 + digit)) (nat_lt (48 + digit) 56) low high) ∙ ap (λ d. octal_from (8 * v + d) rest) same
      where
        low : nat_le 48 (48 + digit) ≡ true
        low = elim (leb_tells 48 (48 + digit)) [ inl h ↦ h.0 | inr h ↦ absurd (omega (arith, h.1)) ]

        high : nat_lt (48 + digit) 56 ≡ true
        high = elim (leb_tells (suc (48 + digit)) 56) [ inl h ↦ h.0 | inr h ↦ absurd (omega (arith, small, h.1)) ]

        same : 48 + digit - 48 ≡ digit
        same = omega arith

pub word_as_shown : (word : ℕ) → word < 4096 → octal_of 4 (octal4 word) ≡ Some word
word_as_shown word small =
    octal_digit_read 0 (word / 512) (octal_digit (word / 64) ∷ octal_digit (word / 8) ∷ octal_digit word ∷ []) ∙ octal_digit_read _ (word / 64) (octal_digit (word / 8) ∷ octal_digit word ∷ [])
    ∙ octal_digit_read _ (word / 8) (octal_digit word ∷ []) ∙ octal_digit_read _ word [] ∙ ap Some value
  where
    value : 8 * (8 * (8 * (8 * 0 + word / 512 % 8) + word / 64 % 8) + word / 8 % 8) + word % 8 ≡ word
    value = omega (arith, small)

pub cell_as_shown : (cell : ℕ) → cell < 32768 → cell_of (octal5 cell) ≡ Some cell
cell_as_shown cell small = by_word (cell / 4096) (cell % 4096) cell (omega arith) (omega (arith, small)) (omega arith)
  where
    by_word : (field word cell : ℕ) → cell ≡ 4096 * field + word → field < 8 → word < 4096 → octal_of 5 (octal_digit field ∷ octal4 word) ≡ Some cell
    by_word field word cell is low small =
        octal_digit_read 0 field (octal4 word) ∙ octal_digit_read _ (word / 512) (octal_digit (word / 64) ∷ octal_digit (word / 8) ∷ octal_digit word ∷ [])
        ∙ octal_digit_read _ (word / 64) (octal_digit (word / 8) ∷ octal_digit word ∷ []) ∙ octal_digit_read _ (word / 8) (octal_digit word ∷ []) ∙ octal_digit_read _ word [] ∙ ap Some value
      where
        value : 8 * (8 * (8 * (8 * (8 * 0 + field % 8) + word / 512 % 8) + word / 64 % 8) + word / 8 % 8) + word % 8 ≡ cell
        value = omega (arith, is, low, small)

pub character_as_shown : (character : ℕ) → character < 256 → character_of (character_text character) ≡ Some character
character_as_shown character small =
    ap (within 0 255) (octal_digit_read 0 (character / 64) (octal_digit (character / 8) ∷ octal_digit character ∷ []) ∙ octal_digit_read _ (character / 8) (octal_digit character ∷ []) ∙ octal_digit_read _ character [] ∙ ap Some value) ∙ low
  where
    value : 8 * (8 * (8 * 0 + character / 64 % 8) + character / 8 % 8) + character % 8 ≡ character
    value = omega (arith, small)

    low : within 0 255 (Some character) ≡ Some character
    low = ap (λ b. if b then Some character else None) (both (nat_le 0 character) (nat_le character 255) least most)
      where
        least : nat_le 0 character ≡ true
        least = elim (leb_tells 0 character) [ inl h ↦ h.0 | inr h ↦ absurd (omega (arith, h.1)) ]

        most : nat_le character 255 ≡ true
        most = elim (leb_tells character 255) [ inl h ↦ h.0 | inr h ↦ absurd (omega (arith, small, h.1)) ]
