use Rattle.pal8_grammar.specs.SourceNames.{own_value}
use Rattle.pal8_values.specs.Words.{word_value}
use Rattle.pal8_values.proofs.WordLemmas.{fails}
use Rattle.pal8_values.proofs.words.word_value.Goals as goal

pub returns-in-Err : goal.returns-in-Err
returns-in-Err c = λ asks punched holds.
    fails (own_value c.args.names.now) c.args.spot (word_value (own_value c.args.names.now) c.args.spot c.args.steps.now asks punched) c.loop-rest.rest.now
    c.step-item.result c.loop-rest.sum c.loop-rest.frames c.take.new.frames c.loop-rest.pools c.take.new.pools c.in-len1-up.len_at_least c.step-item.is
    (c.loop-rest.invariant asks punched holds) c.in-Err.fault
    (c.in-Err.ensures (c.loop-rest.invariant asks punched holds).asks (c.loop-rest.invariant asks punched holds).punched (c.loop-rest.invariant asks punched holds).holds)
