use Rattle.std.proofs.Common.{◌≡◌, ℕ, ◌<◌, length}
use Rattle.source_notes.specs.Notes.{is_flagged}
use Rattle.pal8_source.specs.Pools.{is_in_pool}
use Rattle.pal8_source.specs.Steps.{size_in}
use Rattle.pal8_source.proofs.pools.flags_of.Given as goal

abbrev pub invariant-loop-number : goal.invariant-loop-number
invariant-loop-number l =
    (length l.flags.items ≡ l.number) × ((cell : ℕ) → cell < l.number → is_flagged l.flags.items cell ≡ is_in_pool (size_in l.sizes) cell)
