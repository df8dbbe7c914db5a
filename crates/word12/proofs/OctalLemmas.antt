-- Octal numbers of few digits are below the powers of eight.
use Rattle.std.proofs.Common.{◌<◌, ℕ, zero, suc, arith}
use Rattle.word12.specs.Octal.{octal_limit}

-- an octal number of at most 4 digits
pub four_digits : (count value : ℕ) → count < 5 → value < octal_limit count → value < 0o10000
four_digits zero value short small = omega (arith, small)
four_digits (suc zero) value short small = omega (arith, small)
four_digits (suc (suc zero)) value short small = omega (arith, small)
four_digits (suc (suc (suc zero))) value short small = omega (arith, small)
four_digits (suc (suc (suc (suc zero)))) value short small = omega (arith, small)
four_digits (suc (suc (suc (suc (suc n))))) value short small = omega (arith, short)
