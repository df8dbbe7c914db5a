use Rattle.std.proofs.Common.{◌≡◌, List}
use Rattle.bin_tape.specs.Items.{Item}
use Rattle.bin_tape.specs.Writing.{newest_cell}
use Rattle.tape_source.specs.Steps.{HoldsMap, look_with}
use Rattle.tape_source.specs.Tags.{is_flagged}
use Rattle.tape_source.specs.Lines.{lines_of}
use Rattle.tape_source.specs.Sources.{words_below}
use Rattle.tape_source.proofs.sources.lines_of.Given as goal

abbrev pub invariant-loop-number : goal.invariant-loop-number
invariant-loop-number l = (items : List Item) → HoldsMap items l.words
    → (l.text.items ≡ lines_of (look_with l.tags.names.now l.notes (is_flagged l.code)) (is_flagged l.tags.flags.now) (words_below items l.number)) × (l.before ≡ newest_cell (words_below items l.number))
