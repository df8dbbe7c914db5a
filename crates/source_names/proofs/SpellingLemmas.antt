-- Names of one number are spelled alike.
use Rattle.std.proofs.Common.{◌≡◌, ◌⊎◌, inl, inr, ℕ, zero, suc, ◌+◌, ◌-◌, ◌*◌, ◌≤◌, ◌<◌, nat_le, Bool, true, false, true≢false, if◌then◌else◌, Some, None, is_some, unwrap_or, List, [], ◌∷◌, length, slice_index, refl, ap, sym, ◌∙◌, arith}
use Rattle.std.proofs.lemmas.Bool.{and_parts, cases_Bool, leb-true}
use Rattle.word12.specs.Sixbit.{code_at, is_digit, is_letter, sixbit_code}
use Rattle.pal_sym.specs.Names.{all_coded, is_name, name_number}
use Rattle.source_names.specs.Names.{short_name, six_places}
use Rattle.source_names.specs.Laws.{visible_name}
use Rattle.source_names.proofs.LawLemmas.{coded, six_show}
use Rattle.source_names.proofs.NameLemmas.{number_is}

-- the code of a byte of a name, or of none
abbrev code : ℕ → ℕ
code byte = unwrap_or (sixbit_code byte) 0

-- a letter with its code, a digit, or no byte
abbrev IsByte : ℕ → Type 0
IsByte byte =
    ((0o101 ≤ byte) × (byte ≤ 0o132) × (code byte + 0o100 ≡ byte)) ⊎ (((0o60 ≤ byte) × (byte ≤ 0o71) × (code byte ≡ byte)) ⊎
    ((byte ≡ 0) × (code byte ≡ 0)))

coded_byte : (byte : ℕ) → is_some (sixbit_code byte) ≡ true → IsByte byte
coded_byte byte is = elim (cases_Bool (is_letter byte)) [
  | inl letter ↦
      let parts = and_parts (nat_le 0o101 byte) (nat_le byte 0o132) letter in
      let least = leb-true 0o101 byte parts.0 in
      let most = leb-true byte 0o132 parts.1 in
      let value : code byte ≡ byte - 0o100 =
      ap (λ (b : Bool). unwrap_or (if b then Some (byte - 0o100) else (if is_digit byte then Some byte else None)) 0) letter in
      inl (least, most, omega (arith, value, least))
  | inr other ↦ elim (cases_Bool (is_digit byte)) [
    | inl digit ↦
        let parts = and_parts (nat_le 0o60 byte) (nat_le byte 0o71) digit in
        inr (inl (leb-true 0o60 byte parts.0, leb-true byte 0o71 parts.1, rw (other, digit) refl))
    | inr neither ↦
        let none : is_some (sixbit_code byte) ≡ false = rw (other, neither) refl in
        absurd (true≢false (sym is ∙ none))
  ]
]

-- the byte at a place of a name
byte_at : (name : List ℕ) (place : ℕ) → all_coded name ≡ true → IsByte (slice_index name place)
byte_at [] place is = inr (inr (refl, refl))
byte_at (first ∷ others) zero is = coded_byte first (and_parts (is_some (sixbit_code first)) (all_coded others) is).0
byte_at (first ∷ others) (suc place) is = byte_at others place (and_parts (is_some (sixbit_code first)) (all_coded others) is).1

small : (byte : ℕ) → IsByte byte → code byte < 0o100
small byte (inl letter) = omega (arith, letter.1, letter.2)
small byte (inr (inl digit)) = omega (arith, digit.1, digit.2)
small byte (inr (inr none)) = omega (arith, none.1)

same_byte : (a b : ℕ) → IsByte a → IsByte b → code a ≡ code b → a ≡ b
same_byte a b (inl x) (inl y) same = omega (arith, x.2, y.2, same)
same_byte a b (inl x) (inr (inl y)) same = absurd (omega (arith, x.1, x.2, y.0, y.2, same))
same_byte a b (inl x) (inr (inr y)) same = absurd (omega (arith, x.0, x.2, y.1, same))
same_byte a b (inr (inl x)) (inl y) same = absurd (omega (arith, y.1, y.2, x.0, x.2, same))
same_byte a b (inr (inl x)) (inr (inl y)) same = omega (arith, x.2, y.2, same)
same_byte a b (inr (inl x)) (inr (inr y)) same = absurd (omega (arith, x.0, x.2, y.1, same))
same_byte a b (inr (inr x)) (inl y) same = absurd (omega (arith, y.0, y.2, x.1, same))
same_byte a b (inr (inr x)) (inr (inl y)) same = absurd (omega (arith, y.0, y.2, x.1, same))
same_byte a b (inr (inr x)) (inr (inr y)) same = omega (arith, x.0, y.0)

-- a digit to the base 64 after others
last_digit : (x y a b : ℕ) → a < 0o100 → b < 0o100 → 0o100 * x + a ≡ 0o100 * y + b → (x ≡ y) × (a ≡ b)
last_digit x y a b below below' same = (omega (arith, below, below', same), omega (arith, below, below', same))

abbrev number : ℕ → ℕ → ℕ → ℕ → ℕ → ℕ → ℕ
number a b c d e f = 0o10000000000 * a + 0o100000000 * b + 0o1000000 * c + 0o10000 * d + 0o100 * e + f

nested : (a b c d e f : ℕ) → number a b c d e f ≡ 0o100 * (0o100 * (0o100 * (0o100 * (0o100 * a + b) + c) + d) + e) + f
nested a b c d e f = omega arith

-- names of one number have the same bytes
same_places : (x y : List ℕ) → all_coded x ≡ true → all_coded y ≡ true → name_number x ≡ name_number y → six_places x ≡ six_places y
same_places x y is is' same =
    let at = λ (place : ℕ). byte_at x place is in
    let at' = λ (place : ℕ). byte_at y place is' in
    let whole =
    sym (nested (code_at x 0) (code_at x 1) (code_at x 2) (code_at x 3) (code_at x 4) (code_at x 5)) ∙ same
    ∙ nested (code_at y 0) (code_at y 1) (code_at y 2) (code_at y 3) (code_at y 4) (code_at y 5) in
    let f = last_digit _ _ (code_at x 5) (code_at y 5) (small (slice_index x 5) (at 5)) (small (slice_index y 5) (at' 5)) whole in
    let e = last_digit _ _ (code_at x 4) (code_at y 4) (small (slice_index x 4) (at 4)) (small (slice_index y 4) (at' 4)) f.0 in
    let d = last_digit _ _ (code_at x 3) (code_at y 3) (small (slice_index x 3) (at 3)) (small (slice_index y 3) (at' 3)) e.0 in
    let c = last_digit _ _ (code_at x 2) (code_at y 2) (small (slice_index x 2) (at 2)) (small (slice_index y 2) (at' 2)) d.0 in
    let b =
    last_digit (code_at x 0) (code_at y 0) (code_at x 1) (code_at y 1) (small (slice_index x 1) (at 1)) (small (slice_index y 1) (at' 1)) c.0 in
    six (same_byte (slice_index x 0) (slice_index y 0) (at 0) (at' 0) b.0) (same_byte (slice_index x 1) (slice_index y 1) (at 1) (at' 1) b.1)
    (same_byte (slice_index x 2) (slice_index y 2) (at 2) (at' 2) c.1) (same_byte (slice_index x 3) (slice_index y 3) (at 3) (at' 3) d.1)
    (same_byte (slice_index x 4) (slice_index y 4) (at 4) (at' 4) e.1) (same_byte (slice_index x 5) (slice_index y 5) (at 5) (at' 5) f.1)
  where
    six : {a b c d e f a' b' c' d' e' f' : ℕ} → a ≡ a' → b ≡ b' → c ≡ c' → d ≡ d' → e ≡ e' → f ≡ f'
        → a ∷ b ∷ c ∷ d ∷ e ∷ f ∷ [] ≡ a' ∷ b' ∷ c' ∷ d' ∷ e' ∷ f' ∷ []
    six p q r s t u = cc

is_coded : (name : List ℕ) (number : ℕ) → short_name name ≡ Some number → all_coded name ≡ true
is_coded name number is = split (nat_le (length name) 6) (is_name name) refl is
  where
    split : (a b : Bool) → is_name name ≡ b → (if a then (if b then Some (name_number name) else None) else None) ≡ Some number
        → all_coded name ≡ true
    split true true named is = coded name named
    split true false named is = absurd cc
    split false b named is = absurd cc

pub spelled_alike : (x y : List ℕ) (number : ℕ) → short_name x ≡ Some number → short_name y ≡ Some number → x ≡ y
spelled_alike x y number is is' =
    sym (six_show x number is)
    ∙ ap visible_name (same_places x y (is_coded x number is) (is_coded y number is') (sym (number_is x number is) ∙ number_is y number is'))
    ∙ six_show y number is'
