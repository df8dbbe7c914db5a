use Rattle.std.proofs.Common.{◌≡◌, ◌&&◌, ℕ, ◌<◌, length, not}
use Rattle.source_notes.specs.Notes.{is_flagged}
use Rattle.pal8_source.proofs.sources.all_but.Given as goal

abbrev pub invariant-loop-number : goal.invariant-loop-number
invariant-loop-number l =
    (length l.left.items ≡ l.number)
    × ((cell : ℕ) → cell < l.number → is_flagged l.left.items cell ≡ (is_flagged l.flags cell && not (is_flagged l.others cell)))
