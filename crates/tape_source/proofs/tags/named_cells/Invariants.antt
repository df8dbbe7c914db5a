use Rattle.std.proofs.Common.{◌≡◌, ℕ, ◌<◌, ◌&&◌, is_some, length}
use Rattle.flow8.specs.Flow.{word_in}
use Rattle.tape_source.specs.Steps.{name_by}
use Rattle.tape_source.specs.Tags.{is_flagged}
use Rattle.tape_source.proofs.tags.named_cells.Given as goal

abbrev pub invariant-loop-number : goal.invariant-loop-number
invariant-loop-number l =
    (length l.tags.items ≡ l.number)
    × ((cell : ℕ) → cell < l.number → is_flagged l.tags.items cell ≡ (is_some (word_in l.words cell) && is_some (name_by l.names cell)))
