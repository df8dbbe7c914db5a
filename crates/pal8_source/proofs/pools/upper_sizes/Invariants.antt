use Rattle.std.proofs.Common.{◌≡◌, ℕ, ◌<◌, length}
use Rattle.pal8_source.specs.Pools.{upper_size}
use Rattle.pal8_source.specs.Steps.{size_in}
use Rattle.pal8_source.proofs.pools.upper_sizes.Given as goal

abbrev pub invariant-loop-page : goal.invariant-loop-page
invariant-loop-page l = (length l.sizes.items ≡ l.page) × ((page : ℕ) → page < l.page → size_in l.sizes.items page ≡ upper_size l.program page)
