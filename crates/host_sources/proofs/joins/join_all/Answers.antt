use Rattle.std.proofs.Common.{◌∙◌}
use Rattle.host_sources.proofs.JoinLemmas.{puts_on, puts_last}
use Rattle.host_sources.proofs.joins.join_all.Goals as goal

pub returns-then-not-goes_on-clause-text : goal.returns-then-not-goes_on-clause-text
returns-then-not-goes_on-clause-text c =
    (puts_last c.args.sources.now c.loop-rest.rest.now _ c.is_empty.result c.in_ok-goes_on.goes_on c.deref.result.now c.loop-rest.join.text.items c.put.new.join.text.items
    c.loop-rest.join.counts.items c.put.new.join.counts.items c.in-len1-up.len_at_least c.loop-rest.invariant.text c.loop-rest.invariant.counts
    (c.deref.ensures.value ∙ c.in_ok-text.ensures) c.is_empty.ensures c.if-not-goes_on.true c.in_ok-goes_on.ensures.puts).0

pub loop-rest-preserved : goal.loop-rest-preserved
loop-rest-preserved c =
    let put =
    puts_on c.args.sources.now c.loop-rest.rest.now _ c.is_empty.result c.in_ok-goes_on.goes_on c.deref.result.now c.loop-rest.join.text.items c.put.new.join.text.items
    c.loop-rest.join.counts.items c.put.new.join.counts.items c.in-len1-up.len_at_least c.loop-rest.invariant.text c.loop-rest.invariant.counts
    (c.deref.ensures.value ∙ c.in_ok-text.ensures) c.is_empty.ensures c.if-not-goes_on.false c.in_ok-goes_on.ensures.puts in
    record { text = put.0; counts = put.1 }
