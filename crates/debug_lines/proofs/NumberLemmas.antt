-- Decimal numbers of few digits fit.
use Rattle.std.proofs.Common.{◌<◌, ◌≤◌, ◌+◌, ◌*◌, ◌^◌, ℕ, zero, suc, arith}

-- decimal numbers of so many digits are at most
abbrev pub limit : ℕ → ℕ
limit zero = 0
limit (suc count) = 10 * limit count + 207

-- before the last of fifteen digits
pub next_fits : (count value : ℕ) → count < 15 → value ≤ limit count → value ≤ 23000000000000000
next_fits zero value short small = omega (arith, small)
next_fits (suc zero) value short small = omega (arith, small)
next_fits (suc (suc zero)) value short small = omega (arith, small)
next_fits (suc (suc (suc zero))) value short small = omega (arith, small)
next_fits (suc (suc (suc (suc zero)))) value short small = omega (arith, small)
next_fits (suc (suc (suc (suc (suc zero))))) value short small = omega (arith, small)
next_fits (suc (suc (suc (suc (suc (suc zero)))))) value short small = omega (arith, small)
next_fits (suc (suc (suc (suc (suc (suc (suc zero))))))) value short small = omega (arith, small)
next_fits (suc (suc (suc (suc (suc (suc (suc (suc zero)))))))) value short small = omega (arith, small)
next_fits (suc (suc (suc (suc (suc (suc (suc (suc (suc zero))))))))) value short small = omega (arith, small)
next_fits (suc (suc (suc (suc (suc (suc (suc (suc (suc (suc zero)))))))))) value short small = omega (arith, small)
next_fits (suc (suc (suc (suc (suc (suc (suc (suc (suc (suc (suc zero))))))))))) value short small = omega (arith, small)
next_fits (suc (suc (suc (suc (suc (suc (suc (suc (suc (suc (suc (suc zero)))))))))))) value short small = omega (arith, small)
next_fits (suc (suc (suc (suc (suc (suc (suc (suc (suc (suc (suc (suc (suc zero))))))))))))) value short small = omega (arith, small)
next_fits (suc (suc (suc (suc (suc (suc (suc (suc (suc (suc (suc (suc (suc (suc zero)))))))))))))) value short small = omega (arith, small)
next_fits (suc (suc (suc (suc (suc (suc (suc (suc (suc (suc (suc (suc (suc (suc (suc n))))))))))))))) value short small = omega (arith, short)
