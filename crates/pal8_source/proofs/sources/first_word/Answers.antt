use Rattle.std.proofs.Common.{is_some}
use Rattle.flow8.specs.Flow.{word_in}
use Rattle.pal8_source.proofs.LowestLemmas.{lowest_is, one_more}
use Rattle.pal8_source.proofs.sources.first_word.Goals as goal

pub loop-number-preserved : goal.loop-number-preserved
loop-number-preserved c =
    one_more (λ cell. is_some (word_in c.args.words.now cell)) c.loop-number.number c.of-cell.result c.has_word.result c.loop-number.invariant
    c.of-cell.ensures.number c.has_word.ensures c.if-has_word.false

pub returns-then-has_word : goal.returns-then-has_word
returns-then-has_word c =
    lowest_is (λ cell. is_some (word_in c.args.words.now cell)) c.loop-number.number c.of-cell.result c.has_word.result c.loop-number.invariant
    c.of-cell.ensures.number c.has_word.ensures c.if-has_word.true
