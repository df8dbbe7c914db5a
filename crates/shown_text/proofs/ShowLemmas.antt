-- What is shown is graphic, and is read as it was.
use Rattle.std.proofs.Common.{◌≡◌, ℕ, ◌+◌, ◌-◌, ◌*◌, ◌/◌, ◌%◌, ◌<◌, ◌≤◌, nat_eq, Bool, true, false, true≢false, ◌&&◌, if◌then◌else◌, List, [], ◌∷◌, ◌++◌, refl, ap, sym, ◌∙◌, arith}
use Rattle.std.proofs.lemmas.Bool.Decides.{nat_tests}
use Rattle.word12.specs.Octal.{octal_digit}
use Rattle.shown_text.specs.Showing.{escape, is_plain, shown_byte, text_from, shown_text}
use Rattle.shown_text.specs.Laws.{AreBytes, are_graphic, are_plain, is_graphic}
use Rattle.shown_text.specs.declared.bytes.TheConstants.{BLANK}

-- ## Graphic characters

joined_graphic : (first : ℕ) (a b : List ℕ) → are_graphic first a ≡ true → are_graphic first b ≡ true → are_graphic first (a ++ b) ≡ true
joined_graphic first [] b e f = f
joined_graphic first (c ∷ a) b e f = by (λ rest. joined_graphic first a b rest f) (is_graphic first c) refl e
  where
    by : (are_graphic first a ≡ true → are_graphic first (a ++ b) ≡ true) → (t : Bool) → is_graphic first c ≡ t → (t && are_graphic first a) ≡ true
        → (is_graphic first c && are_graphic first (a ++ b)) ≡ true
    by more true is rest = ap (λ (t : Bool). t && are_graphic first (a ++ b)) is ∙ more rest
    by more false is rest = absurd (true≢false (sym rest))

one_graphic : (first c : ℕ) (others : List ℕ) → is_graphic first c ≡ true → are_graphic first others ≡ true → are_graphic first (c ∷ others) ≡ true
one_graphic first c others e f = ap (λ (t : Bool). t && are_graphic first others) e ∙ f

plain_graphic : (first c : ℕ) → is_plain first c ≡ true → is_graphic first c ≡ true
plain_graphic first c e = grind (arith, nat_tests)

backslash_graphic : (first : ℕ) → first ≤ 0o60 → is_graphic first 0o134 ≡ true
backslash_graphic first low = grind (arith, nat_tests)

octal_graphic : (first c : ℕ) → first ≤ 0o60 → is_graphic first (octal_digit c) ≡ true
octal_graphic first c low = grind (arith, nat_tests)

escape_graphic : (first c : ℕ) → first ≤ 0o60 → are_graphic first (escape c) ≡ true
escape_graphic first c low =
    one_graphic first 0o134 (octal_digit (c / 0o100) ∷ octal_digit (c / 8) ∷ octal_digit c ∷ []) (backslash_graphic first low)
    (one_graphic first (octal_digit (c / 0o100)) (octal_digit (c / 8) ∷ octal_digit c ∷ []) (octal_graphic first (c / 0o100) low)
    (one_graphic first (octal_digit (c / 8)) (octal_digit c ∷ []) (octal_graphic first (c / 8) low) (one_graphic first (octal_digit c) [] (octal_graphic first c low) refl)))

byte_graphic : (first c : ℕ) → first ≤ 0o60 → are_graphic first (shown_byte first c) ≡ true
byte_graphic first c low = by (is_plain first c) refl
  where
    by : (b : Bool) → is_plain first c ≡ b → are_graphic first (if b then c ∷ [] else escape c) ≡ true
    by true e = one_graphic first c [] (plain_graphic first c e) refl
    by false e = escape_graphic first c low

pub shown_is_graphic : (first : ℕ) → first ≤ 0o60 → (bytes : List ℕ) → are_graphic first (text_from first bytes) ≡ true
shown_is_graphic first low [] = refl
shown_is_graphic first low (c ∷ cs) = joined_graphic first (shown_byte first c) (text_from first cs) (byte_graphic first c low) (shown_is_graphic first low cs)

-- ## Reading

abbrev unescaped : List ℕ → List ℕ
unescaped [] = []
unescaped (c ∷ []) = c ∷ []
unescaped (c ∷ a ∷ []) = c ∷ unescaped (a ∷ [])
unescaped (c ∷ a ∷ b ∷ []) = c ∷ unescaped (a ∷ b ∷ [])
unescaped (c ∷ a ∷ b ∷ d ∷ rest) =
    if nat_eq c 92 then (64 * (a - 48) + 8 * (b - 48) + (d - 48)) ∷ unescaped rest else c ∷ unescaped (a ∷ b ∷ d ∷ rest)

plain_read : (c : ℕ) (t : List ℕ) → nat_eq c 92 ≡ false → unescaped (c ∷ t) ≡ c ∷ unescaped t
plain_read c [] other = refl
plain_read c (a ∷ []) other = refl
plain_read c (a ∷ b ∷ []) other = refl
plain_read c (a ∷ b ∷ d ∷ rest) other =
    ap (λ (t : Bool). if t then (64 * (a - 48) + 8 * (b - 48) + (d - 48)) ∷ unescaped rest else c ∷ unescaped (a ∷ b ∷ d ∷ rest)) other

plain_apart : (first c : ℕ) → is_plain first c ≡ true → nat_eq c 92 ≡ false
plain_apart first c e = grind (arith, nat_tests)

octal_back : (c : ℕ) → c < 256 → 64 * (48 + c / 64 % 8 - 48) + 8 * (48 + c / 8 % 8 - 48) + (48 + c % 8 - 48) ≡ c
octal_back c small = omega (arith, small)

byte_back : (first c : ℕ) (t : List ℕ) → c < 256 → unescaped (shown_byte first c ++ t) ≡ c ∷ unescaped t
byte_back first c t small = by (is_plain first c) refl
  where
    by : (b : Bool) → is_plain first c ≡ b → unescaped ((if b then c ∷ [] else escape c) ++ t) ≡ c ∷ unescaped t
    by true e = plain_read c t (plain_apart first c e)
    by false e = ap (λ n. n ∷ unescaped t) (octal_back c small)

bytes_back : (first : ℕ) (bytes : List ℕ) → AreBytes bytes → unescaped (text_from first bytes) ≡ bytes
bytes_back first [] all = refl
bytes_back first (c ∷ cs) all = byte_back first c (text_from first cs) all.0 ∙ ap (λ t. c ∷ t) (bytes_back first cs all.1)

pub shown_is_read : (first : ℕ) (one other : List ℕ) → AreBytes one → AreBytes other → text_from first one ≡ text_from first other → one ≡ other
shown_is_read first one other all each same = sym (bytes_back first one all) ∙ ap unescaped same ∙ bytes_back first other each

-- ## Plain texts

pub plain_is_shown : (bytes : List ℕ) → are_plain bytes ≡ true → shown_text bytes ≡ bytes
plain_is_shown [] all = refl
plain_is_shown (c ∷ cs) all = by (λ rest. plain_is_shown cs rest) (is_plain BLANK c) refl all
  where
    by : (are_plain cs ≡ true → shown_text cs ≡ cs) → (t : Bool) → is_plain BLANK c ≡ t → (t && are_plain cs) ≡ true → (shown_byte BLANK c ++ shown_text cs) ≡ c ∷ cs
    by more true is rest = ap (λ (t : Bool). (if t then c ∷ [] else escape c) ++ shown_text cs) is ∙ ap (λ l. c ∷ l) (more rest)
    by more false is rest = absurd (true≢false (sym rest))
