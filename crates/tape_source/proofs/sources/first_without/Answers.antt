use Rattle.std.proofs.Common.{◌≢◌, None, ◌++◌, ◌∷◌, [], take, ap, sym, subst, ◌∙◌}
use Rattle.std.proofs.lemmas.List.{take_more}
use Rattle.flow8.specs.Flow.{word_in}
use Rattle.tape_source.specs.Sources.{AllGiven}
use Rattle.tape_source.proofs.FlowLemmas.{first_at, given_more, none_is, read_word, some_is}
use Rattle.tape_source.proofs.sources.first_without.Goals as goal

pub loop-start-preserved : goal.loop-start-preserved
loop-start-preserved c =
    let read = read_word c.args.words.now c.index.result c.start-item.result c.index-words-index.result c.requires c.index-words-index.is c.index.ensures.value c.index.ensures.range in
    let some : word_in c.args.words.now c.start-item.result ≢ None = λ none. some_is c.index-words-index.result c.if-is_none.ensures (sym read ∙ none) in
    let all =
    take_more c.args.starts.now c.loop-start.start-index c.start-item.result c.loop-start-test.true
    ∙ ap (λ start. take c.loop-start.start-index c.args.starts.now ++ start ∷ []) (sym c.start-item.is) in
    subst (AllGiven (word_in c.args.words.now)) (sym all)
    (given_more (word_in c.args.words.now) (take c.loop-start.start-index c.args.starts.now) c.start-item.result c.loop-start.invariant some)

pub returns-then-is_none : goal.returns-then-is_none
returns-then-is_none c =
    let read = read_word c.args.words.now c.index.result c.start-item.result c.index-words-index.result c.requires c.index-words-index.is c.index.ensures.value c.index.ensures.range in
    first_at (word_in c.args.words.now) c.args.starts.now c.loop-start.start-index c.start-item.result c.loop-start-test.true c.start-item.is c.loop-start.invariant
    (read ∙ none_is c.index-words-index.result c.if-is_none.ensures)
