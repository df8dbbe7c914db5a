use Rattle.std.proofs.Common.{ℕ, List, ◌+◌, ◌*◌, ◌/◌, ◌<◌, length, arith, subst, sym}
use Rattle.block_words.specs.Patching.{IsPatched}
use Rattle.block_words.proofs.patch_laws.patched_twice.Goals as goal

inside : (image : List ℕ) (block number : ℕ) → block < length image / 0o1000 → number < 0o400 → 2 * (0o400 * block + number) + 1 < length image
inside image block number there within = omega (arith, there, within)

pub returns : goal.returns
returns c old new back block number one other bytes others first second =
    c.patched_back.ensures old new back (0o400 * block + number) other bytes others (inside old block number first.0 first.1) first.3
    (subst (λ word. IsPatched new back (0o400 * block + number) word) (sym first.2) second.3)
