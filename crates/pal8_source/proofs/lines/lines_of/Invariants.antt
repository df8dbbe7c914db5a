use Rattle.std.proofs.Common.{◌≡◌}
use Rattle.pal8_source.specs.Lines.{rest_of_text, lines_below, newest_below}
use Rattle.pal8_source.specs.Steps.{sheet_of}
use Rattle.pal8_source.proofs.lines.lines_of.Given as goal

abbrev pub invariant-loop-number : goal.invariant-loop-number
invariant-loop-number l =
    (l.text.items ≡ lines_below (sheet_of l.sheet) l.number) × (l.reached.before ≡ newest_below (sheet_of l.sheet) l.number)
    × (l.reached.rest ≡ rest_of_text (sheet_of l.sheet) l.number)
