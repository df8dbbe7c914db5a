-- A text that spells a name is short.
use Rattle.std.proofs.Common.{◌≡◌, ◌≤◌, ℕ, ◌+◌, ◌-◌, nat_eq, nat_lt, Bool, true, false, if◌then◌else◌, Option, Some, None, List, [], ◌∷◌, length, take, drop, length-drop, refl, sym, ap, ◌∙◌, arith}
use Rattle.std.proofs.lemmas.List.{take-append-drop, length-append}
use Rattle.std.proofs.lemmas.Bool.Decides.{nat_tests}
use Rattle.word12.specs.Octal.{octal_of}
use Rattle.word12.specs.Sixbit.{sixbit_code}
use Rattle.os8_dir.specs.Names.{before_dot}
use Rattle.name_spelling.specs.Reading.{extension_in, join_codes, last_in, next_code, of_a_file, read_name, stem_in, taking, three, typed_name, with_first, with_high, with_low, with_second, word_in}

taking_few : (count most : ℕ) (code : Option ℕ) (p : ℕ × ℕ) → count ≤ most → taking count code ≡ Some p → p.1 ≤ most
taking_few count most (Some code) p few is = omega (arith, few, ap second is)
  where
    second : Option (ℕ × ℕ) → ℕ
    second None = 0
    second (Some q) = q.1
taking_few count most None p few is = absurd (cc)

code_few : (text : List ℕ) (p : ℕ × ℕ) → next_code text ≡ Some p → p.1 ≤ 3
code_few [] p is = taking_few 0 3 (Some 0) p (omega arith) is
code_few (a ∷ []) p is = taking_few 1 3 (sixbit_code a) p (omega arith) is
code_few (a ∷ b ∷ []) p is = taking_few 1 3 (sixbit_code a) p (omega arith) is
code_few (a ∷ b ∷ c ∷ rest) p is = by (nat_eq a 0o137) is
  where
    by : (t : Bool) → (if t then taking 3 (octal_of 2 (b ∷ c ∷ [])) else taking 1 (sixbit_code a)) ≡ Some p → p.1 ≤ 3
    by true is = taking_few 3 3 (octal_of 2 (b ∷ c ∷ [])) p (omega arith) is
    by false is = taking_few 1 3 (sixbit_code a) p (omega arith) is

word_few : (text : List ℕ) (w : ℕ × ℕ) → word_in text ≡ Some w → w.1 ≤ 6
word_few text w is = by_high (next_code text) (code_few text) is
  where
    by_low : (high : ℕ × ℕ) (low : Option (ℕ × ℕ)) → high.1 ≤ 3 → ((p : ℕ × ℕ) → low ≡ Some p → p.1 ≤ 3) → with_low high low ≡ Some w → w.1 ≤ 6
    by_low high None first few is = absurd (cc)
    by_low high (Some low) first few is = omega (arith, first, few low refl, ap second is)
      where
        second : Option (ℕ × ℕ) → ℕ
        second None = 0
        second (Some q) = q.1

    by_high : (high : Option (ℕ × ℕ)) → ((p : ℕ × ℕ) → high ≡ Some p → p.1 ≤ 3) → with_high text high ≡ Some w → w.1 ≤ 6
    by_high None few is = absurd (cc)
    by_high (Some high) few is = by_low high (next_code (drop high.1 text)) (few high refl) (code_few (drop high.1 text)) is

-- a last word takes all of a text
last_few : (text : List ℕ) (word : ℕ) → last_in text (word_in text) ≡ Some word → length text ≤ 6
last_few text word is = by (word_in text) (word_few text) is
  where
    ends : (used size : ℕ) → used ≤ 6 → nat_lt used size ≡ false → size ≤ 6
    ends used size few is = grind (arith, nat_tests)

    by_end : (t : Bool) (w : ℕ × ℕ) → w.1 ≤ 6 → nat_lt w.1 (length text) ≡ t → (if t then None else Some w.0) ≡ Some word → length text ≤ 6
    by_end true w few ended is = absurd (cc)
    by_end false w few ended is = ends w.1 (length text) few ended

    by : (o : Option (ℕ × ℕ)) → ((w : ℕ × ℕ) → o ≡ Some w → w.1 ≤ 6) → last_in text o ≡ Some word → length text ≤ 6
    by None few is = absurd (cc)
    by (Some w) few is = by_end (nat_lt w.1 (length text)) w (few w refl) refl is

extension_few : (text : List ℕ) (word : ℕ) → extension_in text ≡ Some word → length text ≤ 7
extension_few [] word is = omega arith
extension_few (dot ∷ []) word is = omega arith
extension_few (dot ∷ first ∷ codes) word is = let few = last_few (first ∷ codes) word is in omega (arith, few)

after_drop : (used most size left : ℕ) → used ≤ 6 → left ≤ most → left ≡ size - used → size ≤ most + 6
after_drop used most size left few short is = omega (arith, few, short, is)

stem_few : (text : List ℕ) (words : ℕ × ℕ × ℕ) → stem_in text ≡ Some words → length text ≤ 18
stem_few text words is = by_first (word_in text) (word_few text) is
  where
    by_third : (rest : List ℕ) (a b : ℕ) (third : Option ℕ) → ((w : ℕ) → third ≡ Some w → length rest ≤ 6) → three a b third ≡ Some words → length rest ≤ 6
    by_third rest a b None few is = absurd (cc)
    by_third rest a b (Some w) few is = few w refl

    by_second : (rest : List ℕ) (a : ℕ) (second : Option (ℕ × ℕ)) → ((w : ℕ × ℕ) → second ≡ Some w → w.1 ≤ 6) → with_second rest a second ≡ Some words → length rest ≤ 12
    by_second rest a None few is = absurd (cc)
    by_second rest a (Some w) few is =
        after_drop w.1 6 (length rest) (length (drop w.1 rest)) (few w refl)
        (by_third (drop w.1 rest) a w.0 (last_in (drop w.1 rest) (word_in (drop w.1 rest))) (last_few (drop w.1 rest)) is) (length-drop w.1 rest)

    by_first : (first : Option (ℕ × ℕ)) → ((w : ℕ × ℕ) → first ≡ Some w → w.1 ≤ 6) → with_first text first ≡ Some words → length text ≤ 18
    by_first None few is = absurd (cc)
    by_first (Some w) few is =
        after_drop w.1 12 (length text) (length (drop w.1 text)) (few w refl)
        (by_second (drop w.1 text) w.0 (word_in (drop w.1 text)) (word_few (drop w.1 text)) is) (length-drop w.1 text)

both_few : (one two : Option (ℕ × ℕ × ℕ)) (extension : Option ℕ) (name front back : ℕ)
    → ((words : ℕ × ℕ × ℕ) → one ≡ Some words → front ≤ 18) → ((word : ℕ) → extension ≡ Some word → back ≤ 7) → join_codes one extension ≡ Some name → front + back ≤ 25
both_few (Some words) two (Some word) name front back first last is = omega (arith, first words refl, last word refl)
both_few (Some words) two None name front back first last is = absurd (cc)
both_few None two extension name front back first last is = absurd (cc)

front_size : (n : ℕ) (text : List ℕ) → length (take n text) + length (drop n text) ≡ length text
front_size n text = sym (length-append (take n text) (drop n text)) ∙ ap length (take-append-drop n text)

pub read_few : (text : List ℕ) (name : ℕ) → read_name text ≡ Some name → length text ≤ 25
read_few text name is =
    let n = length (before_dot text) in
    let few = both_few (stem_in (take n text)) None (extension_in (drop n text)) name (length (take n text)) (length (drop n text)) (stem_few (take n text)) (extension_few (drop n text)) is in
    omega (arith, few, front_size n text)

pub typed_few : (text : List ℕ) (name : ℕ) → typed_name text ≡ Some name → length text ≤ 25
unfolding typed_name
typed_few text name is = by (read_name text) (read_few text) is
  where
    by : (o : Option ℕ) → ((n : ℕ) → o ≡ Some n → length text ≤ 25) → of_a_file o ≡ Some name → length text ≤ 25
    by None few is = absurd (cc)
    by (Some n) few is = few n refl
