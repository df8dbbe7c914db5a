use Rattle.std.proofs.Common.{List, ℕ, [], subst, sym, arith}
use Rattle.pal8_tape.proofs.JoinLemmas.{IsJoining, begins, joined_counts, joined_text, joins_on}
use Rattle.pal8_tape.proofs.joins.join_all.Goals as goal

pub loop-rest-init : goal.loop-rest-init
loop-rest-init c =
    subst (λ (text : List ℕ). IsJoining c.args.options c.args.sources.now c.args.sources.now text c.new-2.result.items c.new-pass.result) (sym c.new.ensures.items)
    (subst (λ (counts : List ℕ). IsJoining c.args.options c.args.sources.now c.args.sources.now [] counts c.new-pass.result) (sym c.new-2.ensures.items)
    (begins c.args.options c.args.sources.now c.new-pass.result c.new-pass.ensures))

pub loop-rest-preserved : goal.loop-rest-preserved
loop-rest-preserved c =
    joins_on c.args.options c.args.sources.now c.loop-rest.rest.now _ c.loop-rest.join.text.items c.put.new.join.text.items c.loop-rest.join.counts.items c.put.new.join.counts.items
    c.loop-rest.pass c.put.new.pass c.is_empty.result c.in-len1-up.len_at_least c.loop-rest.invariant c.is_empty.ensures c.in_ok-put.ensures

pub returns-clause-text : goal.returns-clause-text
returns-clause-text c =
    joined_text c.args.options c.args.sources.now c.loop-rest.rest.now c.loop-rest.join.text.items c.loop-rest.join.counts.items c.loop-rest.pass (omega (arith, c.in_default.len_below))
    c.loop-rest.invariant

pub returns-clause-counts : goal.returns-clause-counts
returns-clause-counts c =
    joined_counts c.args.options c.args.sources.now c.loop-rest.rest.now c.loop-rest.join.text.items c.loop-rest.join.counts.items c.loop-rest.pass (omega (arith, c.in_default.len_below))
    c.loop-rest.invariant
