-- Octal digits as texts.
use Rattle.std.proofs.Common.{◌≡◌, ℕ, zero, suc, ◌+◌, ◌%◌, ◌/◌, ◌<◌, [], ◌∷◌, ◌++◌, decimal, arith, refl}
use Rattle.std.proofs.lemmas.Fmt.{decimal_digit}
use Rattle.word12.specs.Octal.{octal_digit}
use Rattle.debug8.specs.Snapshot.{octal2, octal3}
use Rattle.json.specs.Print.{escape_byte}

-- a digit needs no escape
escape-low : (r : ℕ) → r < 8 → escape_byte (48 + r) ≡ (48 + r) ∷ []
unfolding escape_byte
escape-low zero h = refl
escape-low (suc zero) h = refl
escape-low (suc (suc zero)) h = refl
escape-low (suc (suc (suc zero))) h = refl
escape-low (suc (suc (suc (suc zero)))) h = refl
escape-low (suc (suc (suc (suc (suc zero))))) h = refl
escape-low (suc (suc (suc (suc (suc (suc zero)))))) h = refl
escape-low (suc (suc (suc (suc (suc (suc (suc zero))))))) h = refl
escape-low (suc (suc (suc (suc (suc (suc (suc (suc r)))))))) h = absurd (omega (arith, h))

pub escape-digit : (n : ℕ) → escape_byte (octal_digit n) ≡ octal_digit n ∷ []
escape-digit n = escape-low (n % 8) (omega arith)

-- a digit in decimal
pub decimal-octal : (n : ℕ) → decimal (n % 8) ≡ octal_digit n ∷ []
decimal-octal n = decimal_digit (n % 8) (omega arith)

pub two-digits : (n : ℕ) → decimal (n / 8 % 8) ++ decimal (n % 8) ≡ octal2 n
two-digits n = rw (decimal-octal (n / 8), decimal-octal n) refl

pub three-digits : (n : ℕ) → decimal (n / 64 % 8) ++ (decimal (n / 8 % 8) ++ decimal (n % 8)) ≡ octal3 n
three-digits n = rw (decimal-octal (n / 64), decimal-octal (n / 8), decimal-octal n) refl
