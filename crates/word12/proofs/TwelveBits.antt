-- Words keep to twelve bits.
use Rattle.std.proofs.Common.{ℕ, ◌<◌, bit_or}
use Rattle.std.proofs.lemmas.Nat.{or_lt}

pub or_of_12 : (a b : ℕ) → a < 4096 → b < 4096 → bit_or a b < 4096
or_of_12 a b = or_lt 12 a b
