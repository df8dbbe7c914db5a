use Rattle.std.proofs.Common.{◌∙◌, sym}
use Rattle.pal8_grammar.specs.Steps.{setting_of}
use Rattle.pal8_grammar.proofs.ValueLemmas.{accepts, refuses}
use Rattle.pal8_grammar.proofs.readers.Reader.read.Goals as goal

pub returns-then-not-is_taken : goal.returns-then-not-is_taken
returns-then-not-is_taken c =
    sym c.loop-rest.invariant
    ∙ refuses (setting_of c.args.names.now c.args.rules) c.loop-rest.rest.now c.token-item.result c.loop-rest.self c.in-len1-up.len_at_least c.token-item.is
    c.in_ok-is_taken.is_taken c.take.new.self c.if-not-is_taken.true (c.in_ok-is_taken.ensures {u = tt})

pub loop-rest-preserved : goal.loop-rest-preserved
loop-rest-preserved c =
    accepts (setting_of c.args.names.now c.args.rules) c.loop-rest.rest.now c.token-item.result c.loop-rest.self c.in-len1-up.len_at_least c.token-item.is
    c.in_ok-is_taken.is_taken c.take.new.self c.if-not-is_taken.false (c.in_ok-is_taken.ensures {u = tt})
    ∙ c.loop-rest.invariant
