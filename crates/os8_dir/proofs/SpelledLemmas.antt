-- The names that texts spell.
use Rattle.std.proofs.Common.{◌≡◌, ℕ, zero, suc, ◌+◌, ◌-◌, ◌*◌, ◌/◌, ◌<◌, ◌≤◌, ◌&&◌, nat_le, if◌then◌else◌, true, false, true≢false, Bool, List, [], ◌∷◌, ◌++◌, length, length-append, Option, Some, None, refl, ap, sym, subst, ◌∙◌, arith, inl, inr}
use Rattle.std.proofs.lemmas.Bool.Decides.{leb_tells}
use Rattle.word12.specs.Sixbit.{sixbit_code, is_letter, is_digit}
use Rattle.os8_dir.specs.Entries.{IsNamed}
use Rattle.os8_dir.specs.Names.{name_of, words_of_codes, with_end_zeros, before_dot, after_dot, codes_of, codes_within, with_code, name_of_codes, extension_codes, parsed_name}

padded_length : (n : ℕ) (codes : List ℕ) → length (with_end_zeros n codes) ≡ n
padded_length zero codes = refl
padded_length (suc n) [] = omega (arith, padded_length n [])
padded_length (suc n) (code ∷ codes) = omega (arith, padded_length n codes)

-- a number is not 0 where a character stands first
high : (a b c d e f g h : ℕ) → 0 < a → 0 < ((((64 * a + b) * 4096 + (64 * c + d)) * 4096 + (64 * e + f)) * 4096 + (64 * g + h)) / 68719476736
high a b c d e f g h some = omega (arith, some)

name_high : (code : ℕ) (rest : List ℕ) → length rest ≡ 7 → 0 < code → IsNamed (name_of (words_of_codes (code ∷ rest)))
name_high code (b ∷ c ∷ d ∷ e ∷ f ∷ g ∷ h ∷ []) seven some = high code b c d e f g h some
name_high code [] seven some = absurd (omega (arith, seven))
name_high code (b ∷ []) seven some = absurd (omega (arith, seven))
name_high code (b ∷ c ∷ []) seven some = absurd (omega (arith, seven))
name_high code (b ∷ c ∷ d ∷ []) seven some = absurd (omega (arith, seven))
name_high code (b ∷ c ∷ d ∷ e ∷ []) seven some = absurd (omega (arith, seven))
name_high code (b ∷ c ∷ d ∷ e ∷ f ∷ []) seven some = absurd (omega (arith, seven))
name_high code (b ∷ c ∷ d ∷ e ∷ f ∷ g ∷ []) seven some = absurd (omega (arith, seven))
name_high code (b ∷ c ∷ d ∷ e ∷ f ∷ g ∷ h ∷ i ∷ rest) seven some = absurd (omega (arith, seven))

-- a character's code is not 0
code_some : (c code : ℕ) → sixbit_code c ≡ Some code → 0 < code
code_some c code is = of_tests (is_letter c) (is_digit c) (least 65 (nat_le c 90)) (least 48 (nat_le c 57)) is
  where
    least : (n : ℕ) (other : Bool) → nat_le n c && other ≡ true → n ≤ c
    least n other both = elim (leb_tells n c) [ inl h ↦ h.1 | inr h ↦ absurd (true≢false (sym both ∙ ap (λ b. b && other) h.0)) ]

    of_tests : (l d : Bool) → (l ≡ true → 65 ≤ c) → (d ≡ true → 48 ≤ c) → (if l then Some (c - 64) else (if d then Some c else None)) ≡ Some code → 0 < code
    of_tests true d letter digit is = omega (arith, letter refl, taken (c - 64) code is)
      where
        taken : (a b : ℕ) → Some a ≡ Some b → a ≡ b
        taken a b is = cc
    of_tests false true letter digit is = omega (arith, digit refl, taken c code is)
      where
        taken : (a b : ℕ) → Some a ≡ Some b → a ≡ b
        taken a b is = cc
    of_tests false false letter digit is = cc

-- the first word of a name that a text spells is not 0
pub named : (text : List ℕ) (name : ℕ) → parsed_name text ≡ Some name → IsNamed name
named text name is = of_parts (before_dot text) (extension_codes (after_dot text)) is
  where
    of_codes : (b : Bool) (o : Option ℕ) (codes : Option (List ℕ)) (extension : Option (List ℕ)) → ((code : ℕ) → o ≡ Some code → 0 < code) → name_of_codes (if b then with_code o codes else None) extension ≡ Some name → IsNamed name
    of_codes false o codes extension some is = cc
    of_codes true None codes extension some is = cc
    of_codes true (Some code) None extension some is = cc
    of_codes true (Some code) (Some codes) None some is = cc
    of_codes true (Some code) (Some codes) (Some extension) some is = subst IsNamed (taken _ name is) (name_high code (with_end_zeros 5 codes ++ with_end_zeros 2 extension) (length-append (with_end_zeros 5 codes) (with_end_zeros 2 extension) ∙ rw (padded_length 5 codes, padded_length 2 extension) refl) (some code refl))
      where
        taken : (a b : ℕ) → Some a ≡ Some b → a ≡ b
        taken a b is = cc

    of_parts : (stem : List ℕ) (extension : Option (List ℕ)) → name_of_codes (codes_within 6 stem) extension ≡ Some name → IsNamed name
    of_parts [] extension is = cc
    of_parts (c ∷ cs) extension is = of_codes (nat_le 1 (length (c ∷ cs)) && nat_le (length (c ∷ cs)) 6) (sixbit_code c) (codes_of cs) extension (code_some c) is
