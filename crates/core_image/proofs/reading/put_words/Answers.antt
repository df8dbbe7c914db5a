use Rattle.std.proofs.Common.{◌∙◌, arith}
use Rattle.core_image.proofs.ReadLemmas.{word_more}
use Rattle.core_image.proofs.reading.put_words.Goals as goal

pub loop-word-preserved : goal.loop-word-preserved
loop-word-preserved c = record {
  number = omega (arith, c.loop-word.invariant.number);
  pairs =
      c.in_ok-push.ensures.items
      ∙ word_more c.loop-word.pairs.items c.args.pairs.now.items c.args.first c.args.words.now c.loop-word.word-index c.word-item.result c.of.result
      (omega arith) c.word-item.is (omega (arith, c.of.ensures.number, c.loop-word.invariant.number)) c.loop-word.invariant.pairs;
}
