use Rattle.pal8_values.proofs.AskLemmas.{cell_fails, value_fails}
use Rattle.pal8_values.proofs.words.close.Goals as goal

pub returns-in-Err : goal.returns-in-Err
returns-in-Err c = λ asks punched holds.
    value_fails c.args.spot c.args.frames.now c.pop.new.self c.in-Some.frame c.args.sum asks punched c.in-Some.ensures c.in-Err.fault
    (c.in-Err.ensures asks punched holds)

pub returns-in-Err-ask : goal.returns-in-Err-ask
returns-in-Err-ask c = λ asks punched holds.
    let asked = c.in-Ok.ensures asks punched holds in
    cell_fails c.args.spot c.args.frames.now c.pop.new.self c.in-Some.frame c.args.sum asks punched c.in-Some.ensures c.in-Ok.value c.value_of.new.pools asked
    c.in-Err-ask.fault (c.in-Err-ask.ensures asked.asks asked.punched asked.holds)
