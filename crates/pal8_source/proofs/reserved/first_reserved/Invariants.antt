use Rattle.std.proofs.Common.{◌≡◌, ℕ, ◌<◌, false}
use Rattle.tape_source.specs.Steps.{name_by}
use Rattle.pal8_source.specs.Sources.{is_word_of_pal8}
use Rattle.pal8_source.proofs.reserved.first_reserved.Given as goal

abbrev pub invariant-loop-number : goal.invariant-loop-number
invariant-loop-number l = (cell : ℕ) → cell < l.number → is_word_of_pal8 (name_by l.table cell) ≡ false
