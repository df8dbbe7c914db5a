-- Decimal numbers.
use Rattle.std.proofs.Common.{◌<◌, ◌≤◌, ◌*◌, ◌+◌, zero, suc, ℕ, arith, add-one}

-- the numbers of so many digits are below
abbrev pub limit : ℕ → ℕ
limit zero = 1
limit (suc n) = 10 * limit n

-- a number of at most 6 digits
pub six_digits : (count value : ℕ) → count < 7 → value < limit count → value < 1000000
six_digits zero value short small = omega (arith, small)
six_digits (suc zero) value short small = omega (arith, small)
six_digits (suc (suc zero)) value short small = omega (arith, small)
six_digits (suc (suc (suc zero))) value short small = omega (arith, small)
six_digits (suc (suc (suc (suc zero)))) value short small = omega (arith, small)
six_digits (suc (suc (suc (suc (suc zero))))) value short small = omega (arith, small)
six_digits (suc (suc (suc (suc (suc (suc zero)))))) value short small = omega (arith, small)
six_digits (suc (suc (suc (suc (suc (suc (suc n))))))) value short small = omega (arith, short)

-- one digit more
pub next_digit : (count value digit : ℕ) → value < limit count → digit ≤ 9 → 10 * value + digit < limit (count + 1)
next_digit count value digit small one = rw (add-one count) (omega (arith, small, one))
