-- The text of a name is read as the name, and is safe.
use Rattle.std.proofs.Common.{◌≡◌, ℕ, ◌+◌, ◌*◌, ◌/◌, ◌%◌, ◌<◌, Bool, true, false, true≢false, ◌&&◌, if◌then◌else◌, Some, List, [], ◌∷◌, ◌++◌, length, drop, take, refl, ap, sym, ◌∙◌, arith}
use Rattle.std.specs.Prelude.{◌==◌}
use Rattle.std.proofs.lemmas.Bool.Decides.{nat_tests}
use Rattle.word12.specs.Octal.{octal_digit}
use Rattle.os8_dir.specs.Names.{before_dot}
use Rattle.name_spelling.specs.Spelling.{all_zero, with_dot, is_digit_code, is_letter_code, spelled_code, spelled_codes, text_of}
use Rattle.name_spelling.specs.Reading.{extension_in, join_codes, last_in, read_name, stem_in, three, with_first, with_second, word_in}
use Rattle.name_spelling.specs.Laws.{are_safe, is_safe}
use Rattle.name_spelling.proofs.CodeLemmas.{IsWord, first_word_in, last_word}

-- ## No dot stands in what is spelled

abbrev has_no_dot : List ℕ → Bool
has_no_dot [] = true
has_no_dot (c ∷ cs) = if c == 46 then false else has_no_dot cs

joined_no_dot : (a b : List ℕ) → has_no_dot a ≡ true → has_no_dot b ≡ true → has_no_dot (a ++ b) ≡ true
joined_no_dot [] b e f = f
joined_no_dot (c ∷ a) b e f = by (λ rest. joined_no_dot a b rest f) (c == 46) refl e
  where
    by : (has_no_dot a ≡ true → has_no_dot (a ++ b) ≡ true) → (t : Bool) → (c == 46) ≡ t → (if t then false else has_no_dot a) ≡ true
        → (if c == 46 then false else has_no_dot (a ++ b)) ≡ true
    by more true is rest = absurd (true≢false (sym rest))
    by more false is rest = ap (λ (t : Bool). if t then false else has_no_dot (a ++ b)) is ∙ more rest

letter_no_dot : (c : ℕ) → is_letter_code c ≡ true → has_no_dot ((c + 64) ∷ []) ≡ true
letter_no_dot c e = grind (arith, nat_tests)

digit_no_dot : (c : ℕ) → is_digit_code c ≡ true → has_no_dot (c ∷ []) ≡ true
digit_no_dot c e = grind (arith, nat_tests)

octal_no_dot : (c : ℕ) → (48 + c % 8 == 46) ≡ false
octal_no_dot c = grind (arith, nat_tests)

code_no_dot : (c : ℕ) → has_no_dot (spelled_code c) ≡ true
code_no_dot c = by_letter (is_letter_code c) refl
  where
    by_digit : (b : Bool) → is_digit_code c ≡ b → has_no_dot (if b then c ∷ [] else 95 ∷ octal_digit (c / 8) ∷ octal_digit c ∷ []) ≡ true
    by_digit true e = digit_no_dot c e
    by_digit false e =
        ap (λ (t : Bool). if t then false else has_no_dot (octal_digit c ∷ [])) (octal_no_dot (c / 8))
        ∙ ap (λ (t : Bool). if t then false else true) (octal_no_dot c)

    by_letter : (b : Bool) → is_letter_code c ≡ b
        → has_no_dot (if b then (c + 64) ∷ [] else if is_digit_code c then c ∷ [] else 95 ∷ octal_digit (c / 8) ∷ octal_digit c ∷ []) ≡ true
    by_letter true e = letter_no_dot c e
    by_letter false e = by_digit (is_digit_code c) refl

codes_no_dot : (codes : List ℕ) → has_no_dot (spelled_codes codes) ≡ true
codes_no_dot [] = refl
codes_no_dot (c ∷ cs) = by (codes_no_dot cs) (all_zero (c ∷ cs))
  where
    by : has_no_dot (spelled_codes cs) ≡ true → (b : Bool) → has_no_dot (if b then [] else spelled_code c ++ spelled_codes cs) ≡ true
    by more true = refl
    by more false = joined_no_dot (spelled_code c) (spelled_codes cs) (code_no_dot c) more

-- ## A text is cut at its dot

dot_is_cut : (codes : List ℕ) → before_dot (with_dot codes) ≡ []
dot_is_cut codes = by (all_zero codes)
  where
    by : (b : Bool) → before_dot (if b then [] else 46 ∷ spelled_codes codes) ≡ []
    by true = refl
    by false = refl

cut : (t : List ℕ) (codes : List ℕ) → has_no_dot t ≡ true → before_dot (t ++ with_dot codes) ≡ t
cut [] codes e = dot_is_cut codes
cut (c ∷ t) codes e = by (λ rest. cut t codes rest) (c == 46) refl e
  where
    by : (has_no_dot t ≡ true → before_dot (t ++ with_dot codes) ≡ t) → (b : Bool) → (c == 46) ≡ b → (if b then false else has_no_dot t) ≡ true
        → (if c == 46 then [] else c ∷ before_dot (t ++ with_dot codes)) ≡ c ∷ t
    by more true is rest = absurd (true≢false (sym rest))
    by more false is rest = ap (λ (d : Bool). if d then [] else c ∷ before_dot (t ++ with_dot codes)) is ∙ ap (λ r. c ∷ r) (more rest)

front : (t rest : List ℕ) → take (length t) (t ++ rest) ≡ t
front [] rest = refl
front (c ∷ t) rest = ap (λ s. c ∷ s) (front t rest)

following : (t rest : List ℕ) → drop (length t) (t ++ rest) ≡ rest
following [] rest = refl
following (c ∷ t) rest = following t rest

-- ## An extension

code_begins : (c : ℕ) (t : List ℕ) → extension_in (46 ∷ spelled_code c ++ t) ≡ last_in (spelled_code c ++ t) (word_in (spelled_code c ++ t))
code_begins c t = by_letter (is_letter_code c)
  where
    by_digit : (b : Bool)
        → extension_in (46 ∷ (if b then c ∷ [] else 95 ∷ octal_digit (c / 8) ∷ octal_digit c ∷ []) ++ t)
        ≡ last_in ((if b then c ∷ [] else 95 ∷ octal_digit (c / 8) ∷ octal_digit c ∷ []) ++ t)
        (word_in ((if b then c ∷ [] else 95 ∷ octal_digit (c / 8) ∷ octal_digit c ∷ []) ++ t))
    by_digit true = refl
    by_digit false = refl

    by_letter : (b : Bool)
        → extension_in (46 ∷ (if b then (c + 64) ∷ [] else if is_digit_code c then c ∷ [] else 95 ∷ octal_digit (c / 8) ∷ octal_digit c ∷ []) ++ t)
        ≡ last_in ((if b then (c + 64) ∷ [] else if is_digit_code c then c ∷ [] else 95 ∷ octal_digit (c / 8) ∷ octal_digit c ∷ []) ++ t)
        (word_in ((if b then (c + 64) ∷ [] else if is_digit_code c then c ∷ [] else 95 ∷ octal_digit (c / 8) ∷ octal_digit c ∷ []) ++ t))
    by_letter true = refl
    by_letter false = by_digit (is_digit_code c)

both_zero : (c d : ℕ) → all_zero (c ∷ d ∷ []) ≡ true → 64 * c + d ≡ 0
both_zero c d e = grind (arith, nat_tests)

extension_back : (c d : ℕ) → c < 64 → d < 64 → extension_in (with_dot (c ∷ d ∷ [])) ≡ Some (64 * c + d)
extension_back c d small low = by (all_zero (c ∷ d ∷ [])) refl
  where
    by : (b : Bool) → all_zero (c ∷ d ∷ []) ≡ b → extension_in (if b then [] else 46 ∷ spelled_codes (c ∷ d ∷ [])) ≡ Some (64 * c + d)
    by true e = ap (λ n. Some n) (sym (both_zero c d e))
    by false e =
        ap (λ (z : Bool). extension_in (46 ∷ (if z then [] else spelled_code c ++ spelled_codes (d ∷ [])))) e
        ∙ code_begins c (spelled_codes (d ∷ []))
        ∙ ap (λ (z : Bool). last_in (if z then [] else spelled_code c ++ spelled_codes (d ∷ [])) (word_in (if z then [] else spelled_code c ++ spelled_codes (d ∷ []))))
        (sym e)
        ∙ last_word (64 * c + d) (spelled_codes (c ∷ d ∷ [])) (first_word_in c d [] small low)

-- ## A name

small_code : (word : ℕ) → word < 4096 → word / 64 < 64
small_code word small = omega (arith, small)

low_code : (word : ℕ) → word % 64 < 64
low_code word = omega arith

two_back : (word : ℕ) → 64 * (word / 64) + word % 64 ≡ word
two_back word = omega arith

word_back : (word : ℕ) (cs : List ℕ) → word < 4096 → IsWord word (spelled_codes (word / 64 ∷ word % 64 ∷ cs)) (spelled_codes cs)
word_back word cs small =
    let is = first_word_in (word / 64) (word % 64) cs (small_code word small) (low_code word) in
    record { count = is.count; is = is.is ∙ ap (λ w. Some (w, is.count)) (two_back word); following = is.following }

stem_back : (a b c : ℕ) → a < 4096 → b < 4096 → c < 4096
    → stem_in (spelled_codes (a / 64 ∷ a % 64 ∷ b / 64 ∷ b % 64 ∷ c / 64 ∷ c % 64 ∷ [])) ≡ Some (a, b, c)
stem_back a b c la lb lc =
    let later = b / 64 ∷ b % 64 ∷ c / 64 ∷ c % 64 ∷ [] in
    let last = c / 64 ∷ c % 64 ∷ [] in
    let text = spelled_codes (a / 64 ∷ a % 64 ∷ later) in
    let first = word_back a later la in
    let second = word_back b last lb in
    let third = word_back c [] lc in
    ap (with_first text) first.is
    ∙ ap (λ t. with_second t a (word_in t)) first.following
    ∙ ap (with_second (spelled_codes later) a) second.is
    ∙ ap (λ t. three a b (last_in t (word_in t))) second.following
    ∙ ap (three a b) (last_word c (spelled_codes last) third)

name_back : (name : ℕ) → ((name / 68719476736 * 4096 + name / 16777216 % 4096) * 4096 + name / 4096 % 4096) * 4096 + name % 4096 ≡ name
name_back name = omega arith

words_back : (a b c d : ℕ) → a < 4096 → b < 4096 → c < 4096 → d < 4096
    → read_name (spelled_codes (a / 64 ∷ a % 64 ∷ b / 64 ∷ b % 64 ∷ c / 64 ∷ c % 64 ∷ []) ++ with_dot (d / 64 ∷ d % 64 ∷ []))
    ≡ Some (((a * 4096 + b) * 4096 + c) * 4096 + d)
words_back a b c d la lb lc ld =
    let stem = a / 64 ∷ a % 64 ∷ b / 64 ∷ b % 64 ∷ c / 64 ∷ c % 64 ∷ [] in
    let two = d / 64 ∷ d % 64 ∷ [] in
    let t = spelled_codes stem in
    ap (λ s. join_codes (stem_in (take (length s) (t ++ with_dot two))) (extension_in (drop (length s) (t ++ with_dot two)))) (cut t two (codes_no_dot stem))
    ∙ ap (λ s. join_codes (stem_in s) (extension_in (drop (length t) (t ++ with_dot two)))) (front t (with_dot two))
    ∙ ap (λ r. join_codes (stem_in t) (extension_in r)) (following t (with_dot two))
    ∙ ap (λ o. join_codes o (extension_in (with_dot two))) (stem_back a b c la lb lc)
    ∙ ap (join_codes (Some (a, b, c))) (extension_back (d / 64) (d % 64) (small_code d ld) (low_code d))
    ∙ ap (λ n. Some (((a * 4096 + b) * 4096 + c) * 4096 + n)) (two_back d)

below : (n : ℕ) → n % 4096 < 4096
below n = omega arith

first_word : (name : ℕ) → name < 281474976710656 → name / 68719476736 < 4096
first_word name small = omega (arith, small)

pub shown_is_read : (name : ℕ) → name < 281474976710656 → read_name (text_of name) ≡ Some name
unfolding text_of
shown_is_read name small =
    words_back (name / 68719476736) (name / 16777216 % 4096) (name / 4096 % 4096) (name % 4096) (first_word name small) (below (name / 16777216))
    (below (name / 4096)) (below name)
    ∙ ap (λ n. Some n) (name_back name)

-- ## Safe characters

joined_safe : (a b : List ℕ) → are_safe a ≡ true → are_safe b ≡ true → are_safe (a ++ b) ≡ true
joined_safe [] b e f = f
joined_safe (c ∷ a) b e f = by (λ rest. joined_safe a b rest f) (is_safe c) refl e
  where
    by : (are_safe a ≡ true → are_safe (a ++ b) ≡ true) → (t : Bool) → is_safe c ≡ t → (t && are_safe a) ≡ true → (is_safe c && are_safe (a ++ b)) ≡ true
    by more true is rest = ap (λ (t : Bool). t && are_safe (a ++ b)) is ∙ more rest
    by more false is rest = absurd (true≢false (sym rest))

letter_safe : (c : ℕ) → is_letter_code c ≡ true → are_safe ((c + 64) ∷ []) ≡ true
letter_safe c e = grind (arith, nat_tests)

digit_safe : (c : ℕ) → is_digit_code c ≡ true → are_safe (c ∷ []) ≡ true
digit_safe c e = grind (arith, nat_tests)

octal_safe : (c : ℕ) → is_safe (48 + c % 8) ≡ true
octal_safe c = grind (arith, nat_tests)

code_safe : (c : ℕ) → are_safe (spelled_code c) ≡ true
code_safe c = by_letter (is_letter_code c) refl
  where
    by_digit : (b : Bool) → is_digit_code c ≡ b → are_safe (if b then c ∷ [] else 95 ∷ octal_digit (c / 8) ∷ octal_digit c ∷ []) ≡ true
    by_digit true e = digit_safe c e
    by_digit false e =
        ap (λ (t : Bool). t && (is_safe (octal_digit c) && true)) (octal_safe (c / 8)) ∙ ap (λ (t : Bool). t && true) (octal_safe c)

    by_letter : (b : Bool) → is_letter_code c ≡ b
        → are_safe (if b then (c + 64) ∷ [] else if is_digit_code c then c ∷ [] else 95 ∷ octal_digit (c / 8) ∷ octal_digit c ∷ []) ≡ true
    by_letter true e = letter_safe c e
    by_letter false e = by_digit (is_digit_code c) refl

codes_safe : (codes : List ℕ) → are_safe (spelled_codes codes) ≡ true
codes_safe [] = refl
codes_safe (c ∷ cs) = by (codes_safe cs) (all_zero (c ∷ cs))
  where
    by : are_safe (spelled_codes cs) ≡ true → (b : Bool) → are_safe (if b then [] else spelled_code c ++ spelled_codes cs) ≡ true
    by more true = refl
    by more false = joined_safe (spelled_code c) (spelled_codes cs) (code_safe c) more

dotted_safe : (codes : List ℕ) → are_safe (with_dot codes) ≡ true
dotted_safe codes = by (all_zero codes)
  where
    by : (b : Bool) → are_safe (if b then [] else 46 ∷ spelled_codes codes) ≡ true
    by true = refl
    by false = codes_safe codes

pub texts_are_safe : (name : ℕ) → are_safe (text_of name) ≡ true
unfolding text_of
texts_are_safe name =
    let stem = name / 68719476736 / 64 ∷ name / 68719476736 % 64 ∷ name / 16777216 % 4096 / 64 ∷ name / 16777216 % 4096 % 64 ∷ name / 4096 % 4096 / 64 ∷ name / 4096 % 4096 % 64 ∷ [] in
    let two = name % 4096 / 64 ∷ name % 4096 % 64 ∷ [] in
    joined_safe (spelled_codes stem) (with_dot two) (codes_safe stem) (dotted_safe two)
