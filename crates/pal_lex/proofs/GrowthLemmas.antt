-- What one more character makes of a name or a number.
use Rattle.std.proofs.Common.{◌≡◌, ℕ, ◌+◌, ◌-◌, ◌*◌, ◌<◌, ◌≤◌, nat_lt, nat_le, Bool, true, false, ◌&&◌, if◌then◌else◌, unwrap_or, zero, suc, length, get_or, List, [], ◌∷◌, ◌++◌, refl, ap, sym, ◌∙◌, arith}
use Rattle.std.proofs.Math.Nat.{le-mul_of_pos_right, mul_comm}
use Rattle.std.proofs.lemmas.Bool.Decides.{nat_tests}
use Rattle.word12.specs.Sixbit.{is_letter, sixbit_code}
use Rattle.pal_lex.specs.Text.{limit}
use Rattle.pal_lex.specs.Runs.{code_at, name_number, are_digits, number_after, number, number_kind, run_kind}
use Rattle.pal_lex.specs.Drafting.{weight_after}
use Rattle.pal_lex.specs.GrowthSteps.{longer_name, longer_number, grown, first_kind}
use Rattle.pal_lex.specs.declared.pieces.Term.TheVariants.{Name, Number}
use Rattle.pal_lex.specs.declared.pieces.Kind.TheVariants.{Term, BadNumber}

-- ## Names

abbrev code_of : ℕ → ℕ
code_of c = unwrap_or (sixbit_code c) 0

code_small : (c : ℕ) → code_of c < 64
code_small c = grind (arith, nat_tests)

weightless : (n : ℕ) → weight_after (suc (suc (suc (suc (suc (suc n)))))) ≡ 0
weightless zero = refl
weightless (suc n) = rw (weightless n) refl

name_longer : (first : ℕ) (others : List ℕ) (c : ℕ)
    → name_number (first ∷ others ++ c ∷ []) ≡ name_number (first ∷ others) + weight_after (suc (length others)) * code_of c
name_longer a [] c = omega arith
name_longer a (b ∷ []) c = omega arith
name_longer a (b ∷ d ∷ []) c = omega arith
name_longer a (b ∷ d ∷ e ∷ []) c = omega arith
name_longer a (b ∷ d ∷ e ∷ f ∷ []) c = omega arith
name_longer a (b ∷ d ∷ e ∷ f ∷ g ∷ rest) c = rw (weightless (length rest)) (omega arith)

code_at_small : (text : List ℕ) (place : ℕ) → code_at text place < 64
code_at_small text place = code_small (get_or text place 0)

small_name : (text : List ℕ) → name_number text < 68719476736
small_name text = omega (arith, code_at_small text 0, code_at_small text 1, code_at_small text 2, code_at_small text 3, code_at_small text 4, code_at_small text 5)

limited : (n : ℕ) → n < 68719476736 → limit n ≡ n
limited n small = omega arith

name_grown : (first : ℕ) (others : List ℕ) (c : ℕ)
    → longer_name (name_number (first ∷ others)) (weight_after (suc (length others))) c ≡ name_number (first ∷ others ++ c ∷ [])
name_grown first others c =
    ap limit (sym (name_longer first others c)) ∙ limited (name_number (first ∷ others ++ c ∷ [])) (small_name (first ∷ others ++ c ∷ []))

-- ## Numbers

three : (a b c : Bool) → (a && (b && c)) ≡ ((a && b) && c)
three true b c = refl
three false b c = refl

are_digits-append : (base : ℕ) (digits : List ℕ) (c : ℕ)
    → are_digits base (digits ++ c ∷ []) ≡ (are_digits base digits && (nat_le 48 c && nat_lt c (48 + base)))
are_digits-append base [] c = grind (arith, nat_tests)
are_digits-append base (d ∷ digits) c = rw (are_digits-append base digits c) (three (nat_le 48 d && nat_lt d (48 + base)) (are_digits base digits) (nat_le 48 c && nat_lt c (48 + base)))

number_after-append : (base n : ℕ) (digits : List ℕ) (c : ℕ) → number_after base n (digits ++ c ∷ []) ≡ base * number_after base n digits + (c - 48)
number_after-append base n [] c = refl
number_after-append base n (d ∷ digits) c = number_after-append base (base * n + (d - 48)) digits c

times : (base n : ℕ) → 1 ≤ base → n ≤ base * n
times zero n least = absurd (omega arith)
times (suc k) n least = rw (mul_comm (suc k) n) (le-mul_of_pos_right n (omega arith))

number_step : (base n c weight : ℕ) (a : Bool) → 1 ≤ base
    → grown base weight c (if a && nat_lt n 4096 then Term (Number n) else BadNumber)
    ≡ (if (a && (nat_le 48 c && nat_lt c (48 + base))) && nat_lt (base * n + (c - 48)) 4096 then Term (Number (base * n + (c - 48))) else BadNumber)
number_step base n c weight true least = let big = times base n least in grind (arith, nat_tests)
number_step base n c weight false least = refl

number_grown : (base weight c : ℕ) (digits : List ℕ) → 1 ≤ base
    → grown base weight c (number_kind base digits) ≡ number_kind base (digits ++ c ∷ [])
number_grown base weight c digits least =
    rw (are_digits-append base digits c, number_after-append base 0 digits c) (number_step base (number base digits) c weight (are_digits base digits) least)

-- ## Runs

run_by : (test : Bool) (base : ℕ) (first : ℕ) (others : List ℕ) (c : ℕ) → 1 ≤ base
    → grown base (weight_after (suc (length others))) c (if test then Term (Name (name_number (first ∷ others))) else number_kind base (first ∷ others))
    ≡ (if test then Term (Name (name_number (first ∷ others ++ c ∷ []))) else number_kind base (first ∷ others ++ c ∷ []))
run_by true base first others c least = ap (λ n. Term (Name n)) (name_grown first others c)
run_by false base first others c least = number_grown base (weight_after (suc (length others))) c (first ∷ others) least

pub run_grown : (base first : ℕ) (others : List ℕ) (c : ℕ) → 1 ≤ base
    → grown base (weight_after (suc (length others))) c (run_kind base first others) ≡ run_kind base first (others ++ c ∷ [])
run_grown base first others c least = run_by (is_letter first) base first others c least

begun_by : (test : Bool) (base c : ℕ)
    → (if test then Term (Name (longer_name 0 1073741824 c)) else longer_number base 0 c) ≡ (if test then Term (Name (name_number (c ∷ []))) else number_kind base (c ∷ []))
begun_by true base c = ap (λ n. Term (Name n)) (omega (arith, code_small c))
begun_by false base c = grind (arith, nat_tests)

pub run_begun : (base c : ℕ) → first_kind base c ≡ run_kind base c []
run_begun base c = begun_by (is_letter c) base c

pub letter_begun : (base c : ℕ) → is_letter c ≡ true → Term (Name (longer_name 0 1073741824 c)) ≡ run_kind base c []
letter_begun base c letter =
    ap (λ (t : Bool). if t then Term (Name (longer_name 0 1073741824 c)) else longer_number base 0 c) (sym letter) ∙ run_begun base c
