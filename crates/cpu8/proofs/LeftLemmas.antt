-- Steps that are left, where a loop counts down.
use Rattle.std.proofs.Common.{◌≡◌, ℕ, ◌+◌, ◌-◌, ◌<◌, ◌≤◌, arith}

pub none-made : (n : ℕ) → 0 ≡ n - n
none-made n = omega arith

-- one step fewer is left when one more is made
pub one-more : (n left : ℕ) → 0 < left → left ≤ n → n - left + 1 ≡ n - (left - 1)
one-more n left some fits = omega (arith, some, fits)
