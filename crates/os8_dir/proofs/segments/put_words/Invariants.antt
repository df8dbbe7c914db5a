use Rattle.std.proofs.Common.{◌≡◌, take}
use Rattle.os8_dir.specs.Steps.{with_words_from}
use Rattle.os8_dir.proofs.segments.put_words.Given as goal

abbrev pub invariant-loop-k : goal.invariant-loop-k
invariant-loop-k l = l.segment ≡ with_words_from l.fn.segment l.at (take l.k l.words)
