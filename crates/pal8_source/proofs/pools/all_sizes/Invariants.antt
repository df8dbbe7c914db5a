use Rattle.std.proofs.Common.{◌≡◌, ℕ, ◌<◌, if◌then◌else◌, length}
use Rattle.pal8_source.specs.Pools.{is_page_zero, size_by}
use Rattle.pal8_source.specs.Steps.{size_in}
use Rattle.pal8_source.proofs.pools.all_sizes.Given as goal

abbrev pub invariant-loop-page : goal.invariant-loop-page
invariant-loop-page l =
    (length l.sizes.items ≡ l.page)
    × ((page : ℕ) → page < l.page → size_in l.sizes.items page ≡ (if is_page_zero page then size_by l.program (size_in l.upper) page else size_in l.upper page))
