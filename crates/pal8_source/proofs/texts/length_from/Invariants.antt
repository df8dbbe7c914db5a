use Rattle.std.proofs.Common.{◌≡◌, ◌+◌, ◌-◌}
use Rattle.pal8_source.specs.Steps.{sheet_of, words_and}
use Rattle.pal8_source.specs.Texts.{length_from}
use Rattle.pal8_source.proofs.texts.length_from.Given as goal

abbrev pub invariant-loop-count : goal.invariant-loop-count
invariant-loop-count l =
    length_from (sheet_of l.sheet) l.first l.most ≡ words_and l.count (length_from (sheet_of l.sheet) (l.first + l.count) (l.most - l.count))
