-- Octal digits in a PAL8 text.
use Rattle.std.proofs.Common.{◌≡◌, ℕ, ◌+◌, ◌*◌, ◌-◌, ◌/◌, ◌%◌, ◌<◌, nat_le, nat_lt, Bool, true, false, ◌||◌, if◌then◌else◌, refl, ap, ◌∙◌, arith}
use Rattle.std.proofs.lemmas.Bool.Decides.{nat_tests}
use Rattle.word12.specs.Octal.{octal_digit}
use Rattle.word12.specs.Sixbit.{is_letter}
use Rattle.pal8_lex.specs.Text.{as_read, capital, is_dropped}
use Rattle.pal8_lex.specs.Rules.{is_end, is_letter_or_digit}
use Rattle.pal8_lex.specs.Runs.{longer_number}
use Rattle.tape_source.proofs.ByteLemmas.{eight}

-- what an octal digit is
pub record IsOctal (c : ℕ) : Type 0 where
  pub dropped : is_dropped c ≡ false
  pub read : as_read c ≡ c
  pub ends : is_end c ≡ false
  pub coded : is_letter_or_digit c ≡ true
  pub letter : is_letter (capital c) ≡ false

octal_at : (d : ℕ) → d < 8 → IsOctal (48 + d)
octal_at =
    let is = λ (c : ℕ). IsOctal (48 + c) in
    eight is
    record { dropped = refl; read = refl; ends = refl; coded = refl; letter = refl }
    record { dropped = refl; read = refl; ends = refl; coded = refl; letter = refl }
    record { dropped = refl; read = refl; ends = refl; coded = refl; letter = refl }
    record { dropped = refl; read = refl; ends = refl; coded = refl; letter = refl }
    record { dropped = refl; read = refl; ends = refl; coded = refl; letter = refl }
    record { dropped = refl; read = refl; ends = refl; coded = refl; letter = refl }
    record { dropped = refl; read = refl; ends = refl; coded = refl; letter = refl }
    record { dropped = refl; read = refl; ends = refl; coded = refl; letter = refl }

pub octal : (n : ℕ) → IsOctal (octal_digit n)
octal n = octal_at (n % 8) (omega arith)

-- ## Values

value_at : (n d : ℕ) → d < 8 → 8 * n + d < 4096 → longer_number 8 n (capital (48 + d)) ≡ 8 * n + d
value_at n d small below =
    ap (λ c. longer_number 8 n c) (same d small) ∙ ap (λ (b : Bool). if b then 4096 else (if nat_lt (8 * n + (48 + d - 48)) 4096 then 8 * n + (48 + d - 48) else 4096)) (inside d small)
    ∙ ap (λ v. if nat_lt (8 * n + v) 4096 then 8 * n + v else 4096) (left d) ∙ ap (λ (b : Bool). if b then 8 * n + d else 4096) (fits (8 * n + d) below)
  where
    same : (d : ℕ) → d < 8 → capital (48 + d) ≡ 48 + d
    same = eight (λ d. capital (48 + d) ≡ 48 + d) refl refl refl refl refl refl refl refl

    inside : (d : ℕ) → d < 8 → (nat_lt (48 + d) 48 || nat_le 56 (48 + d)) ≡ false
    inside = eight (λ d. (nat_lt (48 + d) 48 || nat_le 56 (48 + d)) ≡ false) refl refl refl refl refl refl refl refl

    left : (d : ℕ) → 48 + d - 48 ≡ d
    left d = omega arith

    fits : (v : ℕ) → v < 4096 → nat_lt v 4096 ≡ true
    fits v small = grind (arith, nat_tests)

-- a number with one octal digit more
pub longer_value : (n m : ℕ) → 8 * n + m % 8 < 4096 → longer_number 8 n (capital (octal_digit m)) ≡ 8 * n + m % 8
longer_value n m below = value_at n (m % 8) (omega arith) below

-- the value of one octal digit
pub digit_value : (n : ℕ) → n < 8 → longer_number 8 0 (capital (octal_digit n)) ≡ n
digit_value n small = longer_value 0 n (omega (arith, small)) ∙ omega (arith, small)

-- the value of four octal digits
pub word_value : (w : ℕ) → w < 4096
    → longer_number 8 (longer_number 8 (longer_number 8 (longer_number 8 0 (capital (octal_digit (w / 512)))) (capital (octal_digit (w / 64)))) (capital (octal_digit (w / 8)))) (capital (octal_digit w)) ≡ w
word_value w small =
    ap (λ n. longer_number 8 (longer_number 8 (longer_number 8 n (capital (octal_digit (w / 64)))) (capital (octal_digit (w / 8)))) (capital (octal_digit w))) (first ∙ one)
    ∙ ap (λ n. longer_number 8 (longer_number 8 n (capital (octal_digit (w / 8)))) (capital (octal_digit w))) (second ∙ two)
    ∙ ap (λ n. longer_number 8 n (capital (octal_digit w))) (third ∙ three) ∙ (fourth ∙ four)
  where
    first : longer_number 8 0 (capital (octal_digit (w / 512))) ≡ 8 * 0 + w / 512 % 8
    first = longer_value 0 (w / 512) (omega arith)

    one : 8 * 0 + w / 512 % 8 ≡ w / 512
    one = omega (arith, small)

    second : longer_number 8 (w / 512) (capital (octal_digit (w / 64))) ≡ 8 * (w / 512) + w / 64 % 8
    second = longer_value (w / 512) (w / 64) (omega (arith, small))

    two : 8 * (w / 512) + w / 64 % 8 ≡ w / 64
    two = omega arith

    third : longer_number 8 (w / 64) (capital (octal_digit (w / 8))) ≡ 8 * (w / 64) + w / 8 % 8
    third = longer_value (w / 64) (w / 8) (omega (arith, small))

    three : 8 * (w / 64) + w / 8 % 8 ≡ w / 8
    three = omega arith

    fourth : longer_number 8 (w / 8) (capital (octal_digit w)) ≡ 8 * (w / 8) + w % 8
    fourth = longer_value (w / 8) w (omega (arith, small))

    four : 8 * (w / 8) + w % 8 ≡ w
    four = omega arith
