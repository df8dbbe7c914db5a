use Rattle.std.proofs.Common.{◌≡◌, ◌+◌, ◌++◌, take}
use Rattle.core_image.specs.Segments.{words_from}
use Rattle.core_image.proofs.reading.put_words.Given as goal

abbrev pub invariant-loop-word : goal.invariant-loop-word
invariant-loop-word l = record {
  number : l.number ≡ l.fn.first + l.word-index;
  pairs : l.pairs.items ≡ l.fn.pairs.items ++ words_from l.fn.first (take l.word-index l.words);
}
