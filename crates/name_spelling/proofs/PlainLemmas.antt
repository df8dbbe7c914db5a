-- Names of letters and digits are shown as they are typed.
use Rattle.std.proofs.Common.{◌≡◌, ◌∙◌, ℕ, zero, suc, ◌+◌, ◌-◌, ◌*◌, ◌/◌, ◌%◌, ◌<◌, ◌≤◌, ◌&&◌, Bool, true, false, nat_eq, nat_le, if◌then◌else◌, Option, Some, None, List, [], ◌∷◌, ◌++◌, length, refl, sym, ap, subst, arith}
use Rattle.std.specs.Prelude.{◌==◌}
use Rattle.std.proofs.lemmas.Bool.Decides.{nat_tests}
use Rattle.word12.specs.Sixbit.{sixbit_code, is_letter, is_digit}
use Rattle.word12.specs.Octal.{octal_digit}
use Rattle.os8_dir.specs.Entries.{IsNamed}
use Rattle.os8_dir.specs.Names.{name_of, words_of_name, before_dot, after_dot, with_code, codes_of, codes_within, with_end_zeros, words_of_codes, name_of_codes, extension_codes, parsed_name}
use Rattle.name_spelling.specs.Spelling.{all_zero, is_digit_code, is_letter_code, spelled_code, spelled_codes, text_of, text_of_words, with_dot}
use Rattle.name_spelling.specs.Reading.{of_a_file, typed_name}
use Rattle.name_spelling.proofs.TextLemmas.{shown_is_read}

some_eq : {X : Type 0} (x y : X) → Some x ≡ Some y → x ≡ y
some_eq x y same = cc

-- ## One character

-- a character is spelled by its code
record IsSpelledBy (c code : ℕ) : Type 0 where
  is : spelled_code code ≡ c ∷ []
  small : code < 64
  some : 0 < code

letter_is : (c : ℕ) → is_letter c ≡ true → (is_letter_code (c - 64) ≡ true) × (c - 64 + 64 ≡ c) × (c - 64 < 64) × (0 < c - 64)
letter_is c is = (grind (arith, nat_tests), grind (arith, nat_tests), grind (arith, nat_tests), grind (arith, nat_tests))

digit_is : (c : ℕ) → is_digit c ≡ true → (is_letter_code c ≡ false) × (is_digit_code c ≡ true) × (c < 64) × (0 < c)
digit_is c is = (grind (arith, nat_tests), is, grind (arith, nat_tests), grind (arith, nat_tests))

spelled_char : (c code : ℕ) → sixbit_code c ≡ Some code → IsSpelledBy c code
spelled_char c code is = by (is_letter c) (is_digit c) refl refl is
  where
    letter : is_letter c ≡ true → IsSpelledBy c (c - 64)
    letter it =
        let parts = letter_is c it in
        record {
          is = ap (λ (b : Bool). if b then (c - 64 + 64) ∷ [] else if is_digit_code (c - 64) then (c - 64) ∷ [] else 95 ∷ octal_digit ((c - 64) / 8) ∷ octal_digit (c - 64) ∷ []) parts.0 ∙ ap (λ n. n ∷ []) parts.1;
          small = parts.2;
          some = parts.3;
        }

    digit : is_digit c ≡ true → IsSpelledBy c c
    digit it =
        let parts = digit_is c it in
        record {
          is =
              ap (λ (b : Bool). if b then (c + 64) ∷ [] else if is_digit_code c then c ∷ [] else 95 ∷ octal_digit (c / 8) ∷ octal_digit c ∷ []) parts.0
              ∙ ap (λ (b : Bool). if b then c ∷ [] else 95 ∷ octal_digit (c / 8) ∷ octal_digit c ∷ []) parts.1;
          small = parts.2;
          some = parts.3;
        }

    by : (l d : Bool) → is_letter c ≡ l → is_digit c ≡ d → (if l then Some (c - 64) else (if d then Some c else None)) ≡ Some code → IsSpelledBy c code
    by true d one two is = subst (IsSpelledBy c) (some_eq (c - 64) code is) (letter one)
    by false true one two is = subst (IsSpelledBy c) (some_eq c code is) (digit two)
    by false false one two is = absurd (cc)

-- ## Characters

-- characters are spelled by codes
abbrev SpelledAll : List ℕ → List ℕ → Type 0
SpelledAll [] [] = Unit {0}
SpelledAll [] (code ∷ codes) = ⊥
SpelledAll (c ∷ cs) [] = ⊥
SpelledAll (c ∷ cs) (code ∷ codes) = IsSpelledBy c code × SpelledAll cs codes

spelled_all : (text codes : List ℕ) → codes_of text ≡ Some codes → SpelledAll text codes
spelled_all [] codes is = subst (SpelledAll []) (some_eq [] codes is) tt
spelled_all (c ∷ cs) codes is = by (sixbit_code c) (codes_of cs) (spelled_char c) (spelled_all cs) is
  where
    by : (one : Option ℕ) (more : Option (List ℕ)) → ((code : ℕ) → one ≡ Some code → IsSpelledBy c code) → ((others : List ℕ) → more ≡ Some others → SpelledAll cs others)
        → with_code one more ≡ Some codes → SpelledAll (c ∷ cs) codes
    by None more first rest is = absurd (cc)
    by (Some code) None first rest is = absurd (cc)
    by (Some code) (Some others) first rest is = subst (SpelledAll (c ∷ cs)) (some_eq (code ∷ others) codes is) (first code refl, rest others refl)

zeros_only : (size : ℕ) → all_zero (with_end_zeros size []) ≡ true
zeros_only zero = refl
zeros_only (suc size) = zeros_only size

nothing_spelled : (cs : List ℕ) → all_zero cs ≡ true → spelled_codes cs ≡ []
nothing_spelled [] e = refl
nothing_spelled (c ∷ cs) e = ap (λ (b : Bool). if b then [] else spelled_code c ++ spelled_codes cs) e

no_zero : (code : ℕ) → 0 < code → nat_eq code 0 ≡ false
no_zero code some = grind (arith, nat_tests)

not_zeros : (code : ℕ) (codes : List ℕ) → 0 < code → all_zero (code ∷ codes) ≡ false
not_zeros code codes some = ap (λ (b : Bool). if b then all_zero codes else false) (no_zero code some)

-- zeros after codes are not spelled
spelled_padded : (size : ℕ) (text codes : List ℕ) → SpelledAll text codes → length text ≤ size → spelled_codes (with_end_zeros size codes) ≡ text
spelled_padded size [] [] all few = nothing_spelled (with_end_zeros size []) (zeros_only size)
spelled_padded size [] (code ∷ codes) all few = absurd all
spelled_padded size (c ∷ cs) [] all few = absurd all
spelled_padded zero (c ∷ cs) (code ∷ codes) all few = absurd (omega (arith, few))
spelled_padded (suc size) (c ∷ cs) (code ∷ codes) all few =
    ap (λ (b : Bool). if b then [] else spelled_code code ++ spelled_codes (with_end_zeros size codes)) (not_zeros code (with_end_zeros size codes) all.0.some)
    ∙ ap (λ l. l ++ spelled_codes (with_end_zeros size codes)) all.0.is
    ∙ ap (λ l. c ∷ l) (spelled_padded size cs codes all.1 (omega (arith, few)))

-- each code has six bits
abbrev AreSmall : List ℕ → Type 0
AreSmall [] = Unit {0}
AreSmall (code ∷ codes) = (code < 64) × AreSmall codes

small_padded : (size : ℕ) (text codes : List ℕ) → SpelledAll text codes → AreSmall (with_end_zeros size codes)
small_padded zero text codes all = tt
small_padded (suc size) [] [] all = (omega arith, small_padded size [] [] tt)
small_padded (suc size) [] (code ∷ codes) all = absurd all
small_padded (suc size) (c ∷ cs) [] all = absurd all
small_padded (suc size) (c ∷ cs) (code ∷ codes) all = (all.0.small, small_padded size cs codes all.1)

length_padded : (size : ℕ) (codes : List ℕ) → length (with_end_zeros size codes) ≡ size
length_padded zero codes = refl
length_padded (suc size) [] = ap suc (length_padded size [])
length_padded (suc size) (code ∷ codes) = ap suc (length_padded size codes)

-- ## The parts of a text

abbrev dotted : Option (List ℕ) → List ℕ
dotted None = []
dotted (Some text) = 46 ∷ text

is_dot : (c : ℕ) → (c == 46) ≡ true → 46 ≡ c
is_dot c is = grind (arith, nat_tests)

parts_are : (text : List ℕ) → before_dot text ++ dotted (after_dot text) ≡ text
parts_are [] = refl
parts_are (c ∷ cs) = by (c == 46) refl (parts_are cs)
  where
    by : (b : Bool) → (c == 46) ≡ b → before_dot cs ++ dotted (after_dot cs) ≡ cs
        → (if b then [] else c ∷ before_dot cs) ++ dotted (if b then Some cs else after_dot cs) ≡ c ∷ cs
    by true is rest = ap (λ n. n ∷ cs) (is_dot c is)
    by false is rest = ap (λ l. c ∷ l) rest

-- of one up to so many characters all codes are known
record IsPart (most : ℕ) (text codes : List ℕ) : Type 0 where
  all : SpelledAll text codes
  some : 0 < length text
  few : length text ≤ most

part_of : (most : ℕ) (text codes : List ℕ) → codes_within most text ≡ Some codes → IsPart most text codes
part_of most text codes is = by (nat_le 1 (length text)) (nat_le (length text) most) refl refl is
  where
    least : (n : ℕ) → nat_le 1 n ≡ true → 0 < n
    least n is = grind (arith, nat_tests)

    at_most : (n : ℕ) → nat_le n most ≡ true → n ≤ most
    at_most n is = grind (arith, nat_tests)

    by : (a b : Bool) → nat_le 1 (length text) ≡ a → nat_le (length text) most ≡ b → (if a && b then codes_of text else None) ≡ Some codes → IsPart most text codes
    by true true one two is = record { all = spelled_all text codes is; some = least (length text) one; few = at_most (length text) two }
    by true false one two is = absurd (cc)
    by false b one two is = absurd (cc)

-- what an extension of two codes is shown as
record IsEnd (shown : Option (List ℕ)) (codes : List ℕ) : Type 0 where
  is : with_dot (with_end_zeros 2 codes) ≡ dotted shown
  small : AreSmall (with_end_zeros 2 codes)

end_of_part : (text codes : List ℕ) → IsPart 2 text codes → IsEnd (Some text) codes
end_of_part [] codes part = absurd (omega (arith, part.some))
end_of_part (c ∷ cs) [] part = absurd part.all
end_of_part (c ∷ cs) (code ∷ codes) part = record {
  is =
      ap (λ (b : Bool). if b then [] else 46 ∷ spelled_codes (with_end_zeros 2 (code ∷ codes))) (not_zeros code (with_end_zeros 1 codes) part.all.0.some)
      ∙ ap (λ l. 46 ∷ l) (spelled_padded 2 (c ∷ cs) (code ∷ codes) part.all part.few);
  small = small_padded 2 (c ∷ cs) (code ∷ codes) part.all;
}

end_of : (shown : Option (List ℕ)) (codes : List ℕ) → extension_codes shown ≡ Some codes → IsEnd shown codes
end_of None codes is = subst (IsEnd None) (some_eq [] codes is) (record { is = refl; small = (omega arith, (omega arith, tt)) })
end_of (Some text) codes is = end_of_part text codes (part_of 2 text codes is)

-- ## A name

word_small : (a b : ℕ) → a < 64 → b < 64 → 64 * a + b < 4096
word_small a b one two = omega (arith, one, two)

high_of : (a b : ℕ) → b < 64 → (64 * a + b) / 64 ≡ a
high_of a b small = omega (arith, small)

low_of : (a b : ℕ) → b < 64 → (64 * a + b) % 64 ≡ b
low_of a b small = omega (arith, small)

words_four : (p q r s : ℕ) → q < 4096 → r < 4096 → s < 4096 → words_of_name (name_of (p ∷ q ∷ r ∷ s ∷ [])) ≡ p ∷ q ∷ r ∷ s ∷ []
words_four p q r s small_q small_r small_s =
    let one : (((p * 4096 + q) * 4096 + r) * 4096 + s) / 68719476736 ≡ p = omega (arith, small_q, small_r, small_s) in
    let two : (((p * 4096 + q) * 4096 + r) * 4096 + s) / 16777216 % 4096 ≡ q = omega (arith, small_q, small_r, small_s) in
    let three : (((p * 4096 + q) * 4096 + r) * 4096 + s) / 4096 % 4096 ≡ r = omega (arith, small_q, small_r, small_s) in
    let four : (((p * 4096 + q) * 4096 + r) * 4096 + s) % 4096 ≡ s = omega (arith, small_s) in
    rw (one, two, three, four) refl

abbrev first_of : List ℕ → ℕ
first_of [] = 0
first_of (code ∷ codes) = code

-- a name of eight codes: how it is shown, and that a file can have it
record IsShown (stem extension : List ℕ) (name : ℕ) : Type 0 where
  text : text_of name ≡ spelled_codes stem ++ with_dot extension
  small : name < 281474976710656
  named : IsNamed name

first_word : (p q r s : ℕ) → 0 < p → 0 < (((p * 4096 + q) * 4096 + r) * 4096 + s) / 68719476736
first_word p q r s some = omega (arith, some)

name_small : (p q r s : ℕ) → p < 4096 → q < 4096 → r < 4096 → s < 4096 → ((p * 4096 + q) * 4096 + r) * 4096 + s < 281474976710656
name_small p q r s one two three four = omega (arith, one, two, three, four)

some_word : (a b : ℕ) → 0 < a → 0 < 64 * a + b
some_word a b some = omega (arith, some)

shown_eight : (stem extension : List ℕ) → length stem ≡ 6 → length extension ≡ 2 → AreSmall stem → AreSmall extension → 0 < first_of stem
    → IsShown stem extension (name_of (words_of_codes (stem ++ extension)))
unfolding text_of
shown_eight (a ∷ b ∷ c ∷ d ∷ e ∷ f ∷ []) (g ∷ h ∷ []) six two small short some =
    let p = 64 * a + b in
    let q = 64 * c + d in
    let r = 64 * e + f in
    let s = 64 * g + h in
    let sp = word_small a b small.0 small.1.0 in
    let sq = word_small c d small.1.1.0 small.1.1.1.0 in
    let sr = word_small e f small.1.1.1.1.0 small.1.1.1.1.1.0 in
    let ss = word_small g h short.0 short.1.0 in
    record {
      text =
          ap text_of_words (words_four p q r s sq sr ss)
          ∙ rw (
            high_of a b small.1.0,
            low_of a b small.1.0,
            high_of c d small.1.1.1.0,
            low_of c d small.1.1.1.0,
            high_of e f small.1.1.1.1.1.0,
            low_of e f small.1.1.1.1.1.0,
            high_of g h short.1.0,
            low_of g h short.1.0,
          ) refl;
      small = name_small p q r s sp sq sr ss;
      named = first_word p q r s (some_word a b some);
    }
shown_eight [] extension six two small short some = absurd (omega (arith, six))
shown_eight (a ∷ []) extension six two small short some = absurd (omega (arith, six))
shown_eight (a ∷ b ∷ []) extension six two small short some = absurd (omega (arith, six))
shown_eight (a ∷ b ∷ c ∷ []) extension six two small short some = absurd (omega (arith, six))
shown_eight (a ∷ b ∷ c ∷ d ∷ []) extension six two small short some = absurd (omega (arith, six))
shown_eight (a ∷ b ∷ c ∷ d ∷ e ∷ []) extension six two small short some = absurd (omega (arith, six))
shown_eight (a ∷ b ∷ c ∷ d ∷ e ∷ f ∷ i ∷ stem) extension six two small short some = absurd (omega (arith, six))
shown_eight (a ∷ b ∷ c ∷ d ∷ e ∷ f ∷ []) [] six two small short some = absurd (omega (arith, two))
shown_eight (a ∷ b ∷ c ∷ d ∷ e ∷ f ∷ []) (g ∷ []) six two small short some = absurd (omega (arith, two))
shown_eight (a ∷ b ∷ c ∷ d ∷ e ∷ f ∷ []) (g ∷ h ∷ i ∷ extension) six two small short some = absurd (omega (arith, two))

first_padded : (text codes : List ℕ) → IsPart 6 text codes → 0 < first_of (with_end_zeros 6 codes)
first_padded [] codes part = absurd (omega (arith, part.some))
first_padded (c ∷ cs) [] part = absurd part.all
first_padded (c ∷ cs) (code ∷ codes) part = part.all.0.some

-- what a text spells is shown as that text, and a file can have it
pub record IsPlain (text : List ℕ) (name : ℕ) : Type 0 where
  pub shown : text_of name ≡ text
  pub small : name < 281474976710656
  pub named : IsNamed name

pub plain : (text : List ℕ) (name : ℕ) → parsed_name text ≡ Some name → IsPlain text name
plain text name is = by (codes_within 6 (before_dot text)) (extension_codes (after_dot text)) (part_of 6 (before_dot text)) (end_of (after_dot text)) is
  where
    by : (stem extension : Option (List ℕ)) → ((codes : List ℕ) → stem ≡ Some codes → IsPart 6 (before_dot text) codes) → ((codes : List ℕ) → extension ≡ Some codes → IsEnd (after_dot text) codes)
        → name_of_codes stem extension ≡ Some name → IsPlain text name
    by None extension first last is = absurd (cc)
    by (Some stem) None first last is = absurd (cc)
    by (Some stem) (Some extension) first last is =
        let part = first stem refl in
        let end = last extension refl in
        let eight = shown_eight (with_end_zeros 6 stem) (with_end_zeros 2 extension) (length_padded 6 stem) (length_padded 2 extension) (small_padded 6 (before_dot text) stem part.all) end.small (first_padded (before_dot text) stem part) in
        subst (IsPlain text) (some_eq (name_of (words_of_codes (with_end_zeros 6 stem ++ with_end_zeros 2 extension))) name is)
        (record {
          shown =
              eight.text ∙ ap (λ l. l ++ with_dot (with_end_zeros 2 extension)) (spelled_padded 6 (before_dot text) stem part.all part.few)
              ∙ ap (λ l. before_dot text ++ l) end.is ∙ parts_are text;
          small = eight.small;
          named = eight.named;
        })

-- ## Typed names

has_name : (name : ℕ) → IsNamed name → nat_eq (name / 68719476736) 0 ≡ false
has_name name named = grind (arith, nat_tests)

pub shown_is_typed : (name : ℕ) → name < 281474976710656 → IsNamed name → typed_name (text_of name) ≡ Some name
unfolding typed_name
shown_is_typed name small named = ap of_a_file (shown_is_read name small) ∙ ap (λ (b : Bool). if b then None else Some name) (has_name name named)

pub plain_is_typed : (text : List ℕ) (name : ℕ) → parsed_name text ≡ Some name → typed_name text ≡ Some name
plain_is_typed text name is = let it = plain text name is in ap typed_name (sym it.shown) ∙ shown_is_typed name it.small it.named

pub plain_is_shown : (text : List ℕ) (name : ℕ) → parsed_name text ≡ Some name → text_of name ≡ text
plain_is_shown text name is = (plain text name is).shown
