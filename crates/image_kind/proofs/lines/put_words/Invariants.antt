use Rattle.std.proofs.Common.{◌≡◌, ◌++◌, length}
use Rattle.image_kind.specs.Lines.{word_lines}
use Rattle.image_kind.proofs.lines.put_words.Given as goal

abbrev pub invariant-loop-rest : goal.invariant-loop-rest
invariant-loop-rest l = l.text.bytes.items ++ word_lines l.name l.rest ≡ l.fn.text.bytes.items ++ word_lines l.name l.fn.words

abbrev pub decreases-loop-rest : goal.decreases-loop-rest
decreases-loop-rest l = length l.rest
