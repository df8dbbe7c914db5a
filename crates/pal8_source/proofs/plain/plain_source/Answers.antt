use Rattle.std.proofs.Common.{◌<◌, ◌++◌, length, None, ap, ◌∙◌, sym, arith}
use Rattle.std.proofs.lemmas.List.{get_or_default}
use Rattle.flow8.specs.Flow.{word_in}
use Rattle.pal8_source.specs.Plain.{lines_below, lines_if}
use Rattle.pal8_source.proofs.PlainMapLemmas.{below_more, below_none}
use Rattle.pal8_source.proofs.plain.plain_source.Goals as goal

pub loop-number-init : goal.loop-number-init
loop-number-init c = c.new-text.ensures.items ∙ sym (below_none (word_in c.args.words.now))

pub loop-number-preserved : goal.loop-number-preserved
loop-number-preserved c =
    let n = c.loop-number.number in
    let words = word_in c.args.words.now in
    let inside : n < length c.args.words.now = omega (arith, c.loop-number-test.true, c.requires) in
    let word = c.index-words-number.is ∙ get_or_default c.args.words.now n _ None inside in
    c.in_ok-put_next.ensures ∙ ap (λ l. l ++ lines_if c.of.result c.index-words-number.result) c.loop-number.invariant
    ∙ ap (λ w. lines_below words n ++ lines_if c.of.result w) word ∙ ap (λ cell. lines_below words n ++ lines_if cell (words n)) c.of.ensures.number
    ∙ sym (below_more words n)
