-- How many images are done, and refused.
use Rattle.std.proofs.Common.{◌≡◌, ◌+◌, ◌≤◌, ℕ, Bool, true, false, arith}
use Rattle.show_commands.specs.Checking.{with_refusal}

pub few-more : (is_sound : Bool) (refused done new : ℕ) → new ≡ with_refusal is_sound refused → refused ≤ done → new ≤ done + 1
few-more true refused done new is few = omega (arith, is, few)
few-more false refused done new is few = omega (arith, is, few)
