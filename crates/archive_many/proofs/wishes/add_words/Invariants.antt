use Rattle.std.proofs.Common.{◌≡◌, ◌++◌, ◌+◌, length, map}
use Rattle.archive_many.specs.Wishing.{asked_by_words}
use Rattle.archive_many.proofs.wishes.add_words.Given as goal

abbrev pub invariant-loop-rest : goal.invariant-loop-rest
invariant-loop-rest l = record {
  asked : l.wishes.items ++ asked_by_words l.fn.files l.place (map (λ word. word.bytes.items) l.rest) ≡ l.fn.wishes.items ++ asked_by_words l.fn.files 0 (map (λ word. word.bytes.items) l.fn.words);
  count : l.place + length l.rest ≡ length l.fn.words;
}

abbrev pub decreases-loop-rest : goal.decreases-loop-rest
decreases-loop-rest l = length l.rest
