use Rattle.std.proofs.Common.{◌≡◌, length}
use Rattle.show_commands.specs.Dumping.{block_words}
use Rattle.show_commands.proofs.dumps.words_of.Given as goal

abbrev pub invariant-loop-k : goal.invariant-loop-k
invariant-loop-k l = record {
  words : l.words.items ≡ block_words l.image l.block l.k;
  size : length l.words.items ≡ l.k;
}
