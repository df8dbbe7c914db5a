-- How many images are done, and refused.
use Rattle.std.proofs.Common.{◌≡◌, ◌+◌, ◌-◌, ◌≤◌, ℕ, List, ◌∷◌, ap, arith, drop, length, take}
use Rattle.get_commands.specs.GettingMany.{count_after}
use Rattle.archive_many.specs.declared.wishes.Wish.{Wish}
use Rattle.archive_many.specs.declared.wishes.Wish.TheVariants as wish

few-done : (one : Wish) (done new : ℕ) → new ≡ count_after one done → new ≤ done + 1
few-done (wish.File file) done new is = omega (arith, is)
few-done (wish.BadWord place) done new is = omega (arith, is)
few-done (wish.NotFound place) done new is = omega (arith, is)
few-done (wish.Block block) done new is = omega (arith, is)

pub done-more : (rest : List Wish) (one : Wish) (done new all : ℕ) → new ≡ count_after one done → rest ≡ one ∷ take (length rest - 1) (drop 1 rest) → done + length rest ≤ all → new + length (take (length rest - 1) (drop 1 rest)) ≤ all
done-more rest one done new all is rest-is count = omega (arith, few-done one done new is, ap length rest-is, count)
