-- Words that are no IOT.
use Rattle.std.proofs.Common.{◌≡◌, ℕ, ◌/◌, false, nat_eq, arith}
use Rattle.std.proofs.lemmas.Bool.Decides.{nat_tests}
use Rattle.pdp8e.specs.Step.{is_for_devices}

-- no device does an instruction of another operation
pub no_iot : (w : ℕ) → nat_eq (w / 0o1000) 6 ≡ false → is_for_devices w ≡ false
no_iot w h = grind (arith, nat_tests, h)
