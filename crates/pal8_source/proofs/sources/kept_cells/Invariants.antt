use Rattle.std.proofs.Common.{◌≡◌, ◌&&◌, ◌||◌, ℕ, ◌<◌, is_some, length}
use Rattle.source_notes.specs.Notes.{is_flagged}
use Rattle.tape_source.specs.Steps.{name_by}
use Rattle.pal8_source.proofs.sources.kept_cells.Given as goal

abbrev pub invariant-loop-number : goal.invariant-loop-number
invariant-loop-number l =
    (length l.exempt.items ≡ l.number)
    × ((cell : ℕ) → cell < l.number → is_flagged l.exempt.items cell ≡ (is_some (name_by l.names cell) || (l.has_starts && is_flagged l.code cell)))
