use Rattle.std.proofs.Common.{◌∙◌, ◌++◌, ap, arith, sym}
use Rattle.debug_lines.specs.Words.{word_length}
use Rattle.debug_lines.proofs.WordLemmas.{word_at, put_word}
use Rattle.debug_lines.proofs.words.words_in.Goals as goal

pub loop-place-preserved : goal.loop-place-preserved
loop-place-preserved c = record {
  read = c.loop-place.invariant.read
      ∙ ap (λ words. c.loop-place.words.items ++ words)
      (word_at _ _ _ c.loop-place-test.true (sym c.is_blank.ensures ∙ c.if-is_blank.false)
      (c.word_length.ensures.length ∙ ap word_length c.split_at.ensures.back) c.word_length.ensures.least)
      ∙ put_word _ _ _ _ c.in_ok-push.ensures.items;
  within = omega (arith, c.word_length.ensures.most, c.split_at.ensures.back_len);
}
