-- Names as their text is cut and its codes are packed.
use Rattle.std.proofs.Common.{◌≡◌, ℕ, zero, suc, ◌+◌, ◌*◌, ◌^◌, ◌<◌, ◌≤◌, Bool, true, false, cond, eqb, leb, List, [], ◌∷◌, ◌++◌, length, take, drop, Option, Some, None, refl, ap, sym, arith, lit≤, lit<, ◌-◌}
use Rattle.std.proofs.Math.Nat.{pow-suc, mul-le-mul, mul-le-mul_right}
use Rattle.std.proofs.lemmas.Bool.{le-leb}
use Rattle.std.proofs.Math.Dec.{leb-zero, leb-suc-zero, leb-suc-suc}
use Rattle.std.specs.Prelude.{if◌then◌else◌, nat_le}
use Rattle.word12.specs.Sixbit.{sixbit_code}
use Rattle.os8_dir.specs.Names.{name_of, before_dot, after_dot, with_code, codes_of, codes_within, with_end_zeros, words_of_codes, name_of_codes, extension_codes, parsed_name}
use Rattle.os8_dir.specs.PackSteps.{digits, number_of_codes, extension_from, with_digit, packed_codes, joined_name}

-- the text before the dot
pub take-before_dot : (text : List ℕ) → take (length (before_dot text)) text ≡ before_dot text
take-before_dot [] = refl
take-before_dot (c ∷ cs) = elim (eqb c 46) as (λ b. take (length (cond b [] (c ∷ before_dot cs))) (c ∷ cs) ≡ cond b [] (c ∷ before_dot cs)) [ true ↦ refl | false ↦ ap (λ xs. c ∷ xs) (take-before_dot cs) ]

-- the extension of what stands from the dot on
pub extension_from-drop : (text : List ℕ) → extension_from (drop (length (before_dot text)) text) ≡ extension_codes (after_dot text)
extension_from-drop [] = refl
extension_from-drop (c ∷ cs) = elim (eqb c 46) as (λ b. extension_from (drop (length (cond b [] (c ∷ before_dot cs))) (c ∷ cs)) ≡ extension_codes (cond b (Some cs) (after_dot cs))) [ true ↦ refl | false ↦ extension_from-drop cs ]

length-padded : (n : ℕ) (codes : List ℕ) → length (with_end_zeros n codes) ≡ n
length-padded zero codes = refl
length-padded (suc n) [] = ap suc (length-padded n [])
length-padded (suc n) (code ∷ codes) = ap suc (length-padded n codes)

digits-zeros : (n : ℕ) → digits (with_end_zeros n []) ≡ 0
digits-zeros zero = refl
digits-zeros (suc n) = rw (digits-zeros n) (omega arith)

with_digit-code : (n : ℕ) (code : Option ℕ) (codes : Option (List ℕ)) → with_digit n code (number_of_codes n codes) ≡ number_of_codes (suc n) (with_code code codes)
with_digit-code n (Some code) (Some codes) = rw (length-padded n codes)
with_digit-code n (Some code) None = refl
with_digit-code n None codes = refl

with_digit-none : (n : ℕ) (code : Option ℕ) → with_digit n code None ≡ None
with_digit-none n (Some code) = refl
with_digit-none n None = refl

-- a character at a time is all of them
pub packed_codes-within : (n : ℕ) (text : List ℕ) → packed_codes n text ≡ (if nat_le (length text) n then number_of_codes n (codes_of text) else None)
packed_codes-within zero [] = refl
packed_codes-within (suc n) [] = rw (leb-zero (suc n)) (ap Some (sym (digits-zeros (suc n))))
packed_codes-within zero (c ∷ cs) = rw (leb-suc-zero (length cs)) refl
packed_codes-within (suc n) (c ∷ cs) =
    rw (packed_codes-within n cs, leb-suc-suc (length cs) n) (elim (leb (length cs) n) as (λ b. with_digit n (sixbit_code c) (cond b (number_of_codes n (codes_of cs)) None) ≡ cond b (number_of_codes (suc n) (with_code (sixbit_code c) (codes_of cs))) None) [ true ↦ with_digit-code n (sixbit_code c) (codes_of cs) | false ↦ with_digit-none n (sixbit_code c) ])

packed-if : (n : ℕ) (b : Bool) (codes : Option (List ℕ)) → cond b (number_of_codes n codes) None ≡ number_of_codes n (cond b codes None)
packed-if n true codes = refl
packed-if n false codes = refl

-- one up to so many characters
pub packed_codes-some : (n : ℕ) (text : List ℕ) → 0 < length text → packed_codes n text ≡ number_of_codes n (codes_within n text)
packed_codes-some n [] some = absurd (omega arith)
packed_codes-some n (c ∷ cs) some =
    let one : leb 1 (length (c ∷ cs)) ≡ true = le-leb 1 (length (c ∷ cs)) (omega arith) in
    rw (packed_codes-within n (c ∷ cs), one) (packed-if n (leb (length (c ∷ cs)) n) (codes_of (c ∷ cs)))

first_of : List ℕ → ℕ
first_of [] = 0
first_of (x ∷ xs) = x

rest_of : List ℕ → List ℕ
rest_of [] = []
rest_of (x ∷ xs) = xs

padded-suc : (n : ℕ) (xs : List ℕ) → with_end_zeros (suc n) xs ≡ first_of xs ∷ with_end_zeros n (rest_of xs)
unfolding first_of rest_of
padded-suc n [] = refl
padded-suc n (x ∷ xs) = refl

-- the eight codes of a name, two in a word
digits-name : (a b c d e f g h : ℕ) → name_of (words_of_codes (a ∷ b ∷ c ∷ d ∷ e ∷ f ∷ g ∷ h ∷ [])) ≡ digits (a ∷ b ∷ c ∷ d ∷ e ∷ f ∷ []) * 4096 + digits (g ∷ h ∷ [])
digits-name a b c d e f g h = omega arith

spelled-codes : (stem extension : List ℕ) → name_of (words_of_codes (with_end_zeros 6 stem ++ with_end_zeros 2 extension)) ≡ digits (with_end_zeros 6 stem) * 4096 + digits (with_end_zeros 2 extension)
spelled-codes stem extension = rw (padded-suc 5, padded-suc 4, padded-suc 3, padded-suc 2, padded-suc 1 (rest_of (rest_of (rest_of (rest_of stem)))), padded-suc 0 (rest_of (rest_of (rest_of (rest_of (rest_of stem))))), padded-suc 1 extension, padded-suc 0 (rest_of extension)) (digits-name _ _ _ _ _ _ _ _)

spelled-joined : (stem extension : Option (List ℕ)) → name_of_codes stem extension ≡ joined_name (number_of_codes 6 stem) (number_of_codes 2 extension)
spelled-joined (Some stem) (Some extension) = ap Some (spelled-codes stem extension)
spelled-joined (Some stem) None = refl
spelled-joined None extension = refl

-- a name of its two parts
pub parsed_name-joined : (text : List ℕ) → parsed_name text ≡ joined_name (number_of_codes 6 (codes_within 6 (take (length (before_dot text)) text))) (number_of_codes 2 (extension_from (drop (length (before_dot text)) text)))
parsed_name-joined text = rw (take-before_dot text, extension_from-drop text) (spelled-joined _ _)

-- place values
pub place-fits : (n : ℕ) → n ≤ 5 → 64 ^ n ≤ 1073741824
place-fits zero small = lit≤ tt
place-fits (suc zero) small = lit≤ tt
place-fits (suc (suc zero)) small = lit≤ tt
place-fits (suc (suc (suc zero))) small = lit≤ tt
place-fits (suc (suc (suc (suc zero)))) small = lit≤ tt
place-fits (suc (suc (suc (suc (suc zero))))) small = lit≤ tt
place-fits (suc (suc (suc (suc (suc (suc n)))))) small = absurd (omega arith)

pub digit-small : (code place : ℕ) → code < 64 → place ≤ 1073741824 → code * place ≤ 67645734912
digit-small code place small fits = let less : code ≤ 63 = omega arith in omega (arith, mul-le-mul {n₁ = code} {m₁ = place} {n₂ = 63} {m₂ = 1073741824} less fits)

pub digit-fits : (n code following : ℕ) → code < 64 → following < 64 ^ n → code * 64 ^ n + following < 64 ^ suc n
digit-fits n code following small below = let less : code ≤ 63 = omega arith in rw (pow-suc 64 n) (omega (arith, mul-le-mul_right (64 ^ n) less))

pub digit-fits-before : (n code following : ℕ) → 0 < n → code < 64 → following < 64 ^ (n - 1) → code * 64 ^ (n - 1) + following < 64 ^ n
digit-fits-before zero code following some small below = absurd (omega arith)
digit-fits-before (suc n) code following some small below =
    let e : suc n - 1 ≡ n = omega arith in
    let below' : following < 64 ^ n = rw e at below in
    rw e (digit-fits n code following small below')

pub place-some : (n : ℕ) → 0 < 64 ^ n
place-some zero = lit< tt
place-some (suc n) = rw (pow-suc 64 n) (omega (arith, place-some n))
