-- A name is shown as it was typed.
use Rattle.std.proofs.Common.{◌≡◌, ℕ, zero, suc, ◌+◌, ◌-◌, ◌*◌, ◌/◌, ◌%◌, ◌<◌, ◌≤◌, ◌&&◌, nat_le, nat_lt, if◌then◌else◌, true, false, Bool, List, [], ◌∷◌, ◌++◌, append_assoc, length, Option, Some, None, refl, ap, sym, ◌∙◌, subst, arith, inl, inr}
use Rattle.std.specs.Prelude.{decimal}
use Rattle.std.specs.List.{flat_map}
use Rattle.std.specs.Char.{digit_value}
use Rattle.std.specs.Str.Parse.{AllDigits, digits_value_after}
use Rattle.std.proofs.lemmas.Bool.Decides.{leb_tells, eqb_tells}
use Rattle.std.proofs.lemmas.Fmt.{decimal_is_IsNumeral, length-decimal-le}
use Rattle.std.proofs.lemmas.Str.{digit_value_digit}
use Rattle.std.proofs.lemmas.Str.Parse.{digit_from_value}
use Rattle.word12.specs.Sixbit.{sixbit_code, is_letter, is_digit}
use Rattle.os8_dir.specs.Names.{name_of, words_of_name, words_of_codes, with_end_zeros, before_dot, after_dot, codes_of, codes_within, with_code, name_of_codes, extension_codes, parsed_name}
use Rattle.word12.specs.Octal.{octal_digit, octal4, octal5, octal_from, octal_of}
use Rattle.refusals.specs.Shown.{name_text, shown_code, shown_words, shown_extension, shown_name}

both : (a b : Bool) → a ≡ true → b ≡ true → a && b ≡ true
both a b one two = rw (one, two) refl

-- a character is shown by its code
record IsShownBy (c code : ℕ) : Type 0 where
  is : shown_code code ≡ c ∷ []
  small : code < 64
  some : 0 < code

taken : {A : Type 0} (a b : A) → Some a ≡ Some b → a ≡ b
taken a b is = cc

shown_char : (c code : ℕ) → sixbit_code c ≡ Some code → IsShownBy c code
shown_char c code is = of_tests (is_letter c) (is_digit c) (bounds 65 90) (bounds 48 57) is
  where
    bounds : (least most : ℕ) → nat_le least c && nat_le c most ≡ true → (least ≤ c) × (c ≤ most)
    bounds least most both = elim (leb_tells least c) [
      | inl h ↦ elim (leb_tells c most) [ inl g ↦ (h.1, g.1) | inr g ↦ absurd (wrong (sym both ∙ rw (h.0, g.0) refl)) ]
      | inr h ↦ absurd (wrong (sym both ∙ ap (λ b. b && nat_le c most) h.0))
    ]
      where
        wrong : true ≡ false → ⊥
        wrong is = cc

    letter_is : (c : ℕ) → 65 ≤ c → c ≤ 90 → IsShownBy c (c - 64)
    letter_is c low high = by_code (c - 65) c (omega (arith, low)) (omega (arith, low, high))
      where
        by_code : (n c : ℕ) → c ≡ n + 65 → n < 26 → IsShownBy c (c - 64)
        by_code n c is few = rw is (record { is = shows n few; small = omega (arith, few); some = omega arith })
          where
            same : (n : ℕ) → n + 65 - 64 ≡ suc n
            same n = omega arith

            shows : (n : ℕ) → n < 26 → shown_code (n + 65 - 64) ≡ (n + 65) ∷ []
            shows n few = rw (same n) (elim (leb_tells (suc n) 31) [ inl h ↦ rw h.0 refl | inr h ↦ absurd (omega (arith, few, h.1)) ])

    digit_is : (c : ℕ) → 48 ≤ c → c ≤ 57 → IsShownBy c c
    digit_is c low high = by_code (c - 1) c (omega (arith, low)) (omega (arith, low)) (omega (arith, high))
      where
        by_code : (n c : ℕ) → c ≡ suc n → 47 ≤ n → n < 57 → IsShownBy c c
        by_code n c is least few = rw is (record { is = shows n least; small = omega (arith, few); some = omega arith })
          where
            add : (n : ℕ) → n + 1 ≡ suc n
            add n = omega arith

            shows : (n : ℕ) → 47 ≤ n → shown_code (suc n) ≡ suc n ∷ []
            shows n least = elim (leb_tells (suc n) 31) [ inl h ↦ absurd (omega (arith, least, h.1)) | inr h ↦ rw h.0 (ap (λ m. m ∷ []) (add n)) ]

    of_tests : (l d : Bool) → (l ≡ true → (65 ≤ c) × (c ≤ 90)) → (d ≡ true → (48 ≤ c) × (c ≤ 57)) → (if l then Some (c - 64) else (if d then Some c else None)) ≡ Some code → IsShownBy c code
    of_tests true d letter digit is = subst (IsShownBy c) (taken (c - 64) code is) (letter_is c (letter refl).0 (letter refl).1)
    of_tests false true letter digit is = subst (IsShownBy c) (taken c code is) (digit_is c (digit refl).0 (digit refl).1)
    of_tests false false letter digit is = cc

-- codes of characters: how they are shown, how many they are, and that each is one
abbrev ShowAll : List ℕ → List ℕ → Type 0
ShowAll [] [] = Unit {0}
ShowAll [] (code ∷ codes) = ⊥
ShowAll (c ∷ cs) [] = ⊥
ShowAll (c ∷ cs) (code ∷ codes) = IsShownBy c code × ShowAll cs codes

shown_all : (text codes : List ℕ) → codes_of text ≡ Some codes → ShowAll text codes
shown_all [] codes is = subst (ShowAll []) (taken [] codes is) tt
shown_all (c ∷ cs) codes is = of_parts (sixbit_code c) (codes_of cs) (shown_char c) (shown_all cs) is
  where
    of_parts : (one : Option ℕ) (more : Option (List ℕ)) → ((code : ℕ) → one ≡ Some code → IsShownBy c code) → ((codes : List ℕ) → more ≡ Some codes → ShowAll cs codes) → with_code one more ≡ Some codes → ShowAll (c ∷ cs) codes
    of_parts None more first rest is = cc
    of_parts (Some code) None first rest is = cc
    of_parts (Some code) (Some others) first rest is = subst (ShowAll (c ∷ cs)) (taken (code ∷ others) codes is) (first code refl, rest others refl)

-- the characters of codes
abbrev shown_codes : List ℕ → List ℕ
shown_codes codes = flat_map shown_code codes

-- codes below 64
abbrev AreCodes : List ℕ → Type 0
AreCodes [] = Unit {0}
AreCodes (code ∷ codes) = (code < 64) × AreCodes codes

-- zeros after codes are not shown
show_padded : (size : ℕ) (text codes : List ℕ) → ShowAll text codes → length text ≤ size → shown_codes (with_end_zeros size codes) ≡ text
show_padded zero [] [] all few = refl
show_padded zero [] (code ∷ codes) all few = absurd all
show_padded zero (c ∷ cs) codes all few = absurd (omega (arith, few))
show_padded (suc size) [] [] all few = show_padded size [] [] tt (omega arith)
show_padded (suc size) [] (code ∷ codes) all few = absurd all
show_padded (suc size) (c ∷ cs) [] all few = absurd all
show_padded (suc size) (c ∷ cs) (code ∷ codes) (one, all) few = rw one.is (ap (λ t. c ∷ t) (show_padded size cs codes all (omega (arith, few))))

padded_codes : (size : ℕ) (text codes : List ℕ) → ShowAll text codes → AreCodes (with_end_zeros size codes)
padded_codes zero text codes all = tt
padded_codes (suc size) [] [] all = (omega arith, padded_codes size [] [] tt)
padded_codes (suc size) [] (code ∷ codes) all = absurd all
padded_codes (suc size) (c ∷ cs) [] all = absurd all
padded_codes (suc size) (c ∷ cs) (code ∷ codes) (one, all) = (one.small, padded_codes size cs codes all)

-- the four words of a name again
words_again : (a b c d : ℕ) → a < 4096 → b < 4096 → c < 4096 → d < 4096 → words_of_name (name_of (a ∷ b ∷ c ∷ d ∷ [])) ≡ a ∷ b ∷ c ∷ d ∷ []
words_again a b c d la lb lc ld = rw (one, two, three, four) refl
  where
    one : (((a * 4096 + b) * 4096 + c) * 4096 + d) / 68719476736 ≡ a
    one = omega (arith, lb, lc, ld)

    two : (((a * 4096 + b) * 4096 + c) * 4096 + d) / 16777216 % 4096 ≡ b
    two = omega (arith, la, lb, lc, ld)

    three : (((a * 4096 + b) * 4096 + c) * 4096 + d) / 4096 % 4096 ≡ c
    three = omega (arith, la, lb, lc, ld)

    four : (((a * 4096 + b) * 4096 + c) * 4096 + d) % 4096 ≡ d
    four = omega (arith, la, lb, lc, ld)

-- a word of two codes
high_code : (h l : ℕ) → l < 64 → (64 * h + l) / 64 ≡ h
high_code h l small = omega (arith, small)

low_code : (h l : ℕ) → l < 64 → (64 * h + l) % 64 ≡ l
low_code h l small = omega (arith, small)

word_small : (h l : ℕ) → h < 64 → l < 64 → 64 * h + l < 4096
word_small h l high low = omega (arith, high, low)

-- the words of six codes, and of two, shown as a name
name_shows : (codes : List ℕ) (g h : ℕ) → length codes ≡ 6 → AreCodes codes → g < 64 → h < 64 → name_text (name_of (words_of_codes (codes ++ g ∷ h ∷ []))) ≡ shown_codes codes ++ shown_extension (64 * g + h)
unfolding name_text
name_shows (a ∷ b ∷ c ∷ d ∷ e ∷ f ∷ []) g h six (la, (lb, (lc, (ld, (le, (lf, last)))))) lg lh =
    ap shown_name (words_again (64 * a + b) (64 * c + d) (64 * e + f) (64 * g + h) (word_small a b la lb) (word_small c d lc ld) (word_small e f le lf) (word_small g h lg lh))
    ∙ rw (high_code a b lb, low_code a b lb, high_code c d ld, low_code c d ld, high_code e f lf, low_code e f lf)
    (ap (λ t. t ++ shown_extension (64 * g + h)) (groups (shown_code a) (shown_code b) (shown_code c) (shown_code d) (shown_code e) (shown_code f)))
  where
    groups : (a b c d e f : List ℕ) → a ++ b ++ (c ++ d ++ (e ++ f ++ [])) ≡ a ++ (b ++ (c ++ (d ++ (e ++ (f ++ [])))))
    groups a b c d e f = append_assoc a b (c ++ d ++ (e ++ f ++ [])) ∙ ap (λ t. a ++ (b ++ t)) (append_assoc c d (e ++ f ++ []) ∙ ap (λ t. c ++ (d ++ t)) (append_assoc e f []))
name_shows [] g h six all lg lh = absurd (omega (arith, six))
name_shows (a ∷ []) g h six all lg lh = absurd (omega (arith, six))
name_shows (a ∷ b ∷ []) g h six all lg lh = absurd (omega (arith, six))
name_shows (a ∷ b ∷ c ∷ []) g h six all lg lh = absurd (omega (arith, six))
name_shows (a ∷ b ∷ c ∷ d ∷ []) g h six all lg lh = absurd (omega (arith, six))
name_shows (a ∷ b ∷ c ∷ d ∷ e ∷ []) g h six all lg lh = absurd (omega (arith, six))
name_shows (a ∷ b ∷ c ∷ d ∷ e ∷ f ∷ x ∷ xs) g h six all lg lh = absurd (omega (arith, six))

-- an extension that is spelled
extension_shows : (g h : ℕ) → 0 < g → g < 64 → h < 64 → shown_extension (64 * g + h) ≡ 46 ∷ shown_codes (g ∷ h ∷ [])
extension_shows g h some small low = by_word (64 * g + h - 1) (64 * g + h) (omega (arith, some)) refl
  where
    by_word : (n word : ℕ) → word ≡ suc n → word ≡ 64 * g + h → shown_extension word ≡ 46 ∷ shown_codes (g ∷ h ∷ [])
    by_word n word is word_is = rw is (ap (λ t. 46 ∷ t) (ap (λ w. shown_words (w ∷ [])) (sym is ∙ word_is) ∙ rw (high_code g h low, low_code g h low) (append_assoc (shown_code g) (shown_code h) [])))

-- a text is what stands before its first dot, and the dot with what stands after
abbrev dotted : Option (List ℕ) → List ℕ
dotted None = []
dotted (Some text) = 46 ∷ text

two_parts : (text : List ℕ) → before_dot text ++ dotted (after_dot text) ≡ text
two_parts [] = refl
two_parts (c ∷ cs) = elim (eqb_tells c 46) [ inl h ↦ rw h.0 (ap (λ d. d ∷ cs) (sym h.1)) | inr h ↦ rw h.0 (ap (λ t. c ∷ t) (two_parts cs)) ]

-- the codes of a text that is not too long
record HasCodes (most : ℕ) (text codes : List ℕ) : Type 0 where
  some : 0 < length text
  few : length text ≤ most
  all : ShowAll text codes

has_codes : (most : ℕ) (text codes : List ℕ) → codes_within most text ≡ Some codes → HasCodes most text codes
has_codes most text codes is = elim (leb_tells 1 (length text)) [
  | inl h ↦ elim (leb_tells (length text) most) [
    | inl g ↦ record { some = h.1; few = g.1; all = shown_all text codes (sym (rw (h.0, g.0) refl) ∙ is) }
    | inr g ↦ absurd (none (sym (rw (h.0, g.0) refl) ∙ is))
  ]
  | inr h ↦ absurd (none (sym (rw h.0 refl) ∙ is))
]
  where
    none : None ≡ Some codes → ⊥
    none is = cc

-- the two codes of an extension
record HasExtension (text codes : List ℕ) : Type 0 where
  g : ℕ
  h : ℕ
  are : codes ≡ g ∷ h ∷ []
  some : 0 < g
  high : g < 64
  low : h < 64
  shows : shown_codes (g ∷ h ∷ []) ≡ text

has_extension : (text codes : List ℕ) → 0 < length text → length text ≤ 2 → ShowAll text codes → HasExtension text (with_end_zeros 2 codes)
has_extension [] codes some few all = absurd (omega (arith, some))
has_extension (c ∷ []) [] some few all = absurd all
has_extension (c ∷ []) (g ∷ []) some few all = record { g = g; h = 0; are = refl; some = all.0.some; high = all.0.small; low = omega arith; shows = rw all.0.is refl }
has_extension (c ∷ []) (g ∷ h ∷ codes) some few all = absurd all.1
has_extension (c ∷ d ∷ []) [] some few all = absurd all
has_extension (c ∷ d ∷ []) (g ∷ []) some few all = absurd all.1
has_extension (c ∷ d ∷ []) (g ∷ h ∷ []) some few all = record { g = g; h = h; are = refl; some = all.0.some; high = all.0.small; low = all.1.0.small; shows = rw (all.0.is, all.1.0.is) refl }
has_extension (c ∷ d ∷ []) (g ∷ h ∷ i ∷ codes) some few all = absurd all.1.1
has_extension (c ∷ d ∷ e ∷ text) codes some few all = absurd (omega (arith, few))

padded_length : (size : ℕ) (codes : List ℕ) → length (with_end_zeros size codes) ≡ size
padded_length zero codes = refl
padded_length (suc size) [] = omega (arith, padded_length size [])
padded_length (suc size) (code ∷ codes) = omega (arith, padded_length size codes)

-- the name of a stem's codes and two of an extension is shown as both
both_show : (stem codes two : List ℕ) (g h : ℕ) → HasCodes 6 stem codes → two ≡ g ∷ h ∷ [] → g < 64 → h < 64 → name_text (name_of (words_of_codes (with_end_zeros 6 codes ++ two))) ≡ stem ++ shown_extension (64 * g + h)
both_show stem codes two g h has are high low =
    ap (λ t. name_text (name_of (words_of_codes (with_end_zeros 6 codes ++ t)))) are
    ∙ name_shows (with_end_zeros 6 codes) g h (padded_length 6 codes) (padded_codes 6 stem codes has.all) high low
    ∙ ap (λ t. t ++ shown_extension (64 * g + h)) (show_padded 6 stem codes has.all has.few)

-- the name of these codes is shown as the text
names_text : (stem text codes : List ℕ) (extension : Option (List ℕ)) (name : ℕ) → HasCodes 6 stem codes → stem ++ dotted extension ≡ text
    → name_of_codes (Some codes) (extension_codes extension) ≡ Some name → name_text name ≡ text
names_text stem text codes None name has parts is =
    ap name_text (sym (taken (name_of (words_of_codes (with_end_zeros 6 codes ++ 0 ∷ 0 ∷ []))) name is)) ∙ both_show stem codes (0 ∷ 0 ∷ []) 0 0 has refl (omega arith) (omega arith) ∙ parts
names_text stem text codes (Some following) name has parts is = of_codes (codes_within 2 following) (has_codes 2 following) is
  where
    of_codes : (own : Option (List ℕ)) → ((codes : List ℕ) → own ≡ Some codes → HasCodes 2 following codes) → name_of_codes (Some codes) own ≡ Some name → name_text name ≡ text
    of_codes None has_own is = cc
    of_codes (Some others) has_own is =
        let own = has_own others refl in
        let e = has_extension following others own.some own.few own.all in
        ap name_text (sym (taken (name_of (words_of_codes (with_end_zeros 6 codes ++ with_end_zeros 2 others))) name is)) ∙ both_show stem codes (with_end_zeros 2 others) e.g e.h has e.are e.high e.low
        ∙ ap (λ t. stem ++ t) (extension_shows e.g e.h e.some e.high e.low ∙ ap (λ t. 46 ∷ t) e.shows) ∙ parts

pub name_as_typed : (text : List ℕ) (name : ℕ) → parsed_name text ≡ Some name → name_text name ≡ text
name_as_typed text name is = of_stem (codes_within 6 (before_dot text)) (has_codes 6 (before_dot text)) is
  where
    of_stem : (stem : Option (List ℕ)) → ((codes : List ℕ) → stem ≡ Some codes → HasCodes 6 (before_dot text) codes) → name_of_codes stem (extension_codes (after_dot text)) ≡ Some name → name_text name ≡ text
    of_stem None has is = cc
    of_stem (Some codes) has is = names_text (before_dot text) text codes (after_dot text) name (has codes refl) (two_parts text) is
