use Rattle.std.proofs.Common.{◌∙◌, false, true, sym, arith}
use Rattle.pal8_pools.proofs.ValueLemmas.{looks_number, other_test, same_test}
use Rattle.pal8_pools.proofs.ranks.rank_below.Goals as goal

pub returns-then-values-last-clause-rank : goal.returns-then-values-last-clause-rank
returns-then-values-last-clause-rank c =
    sym (looks_number c.args.values.now c.args.last c.loop-rank.rank c.args.value c.loop-rank-test.true true (same_test _ _ c.if-values-last.true)) ∙ c.loop-rank.invariant.same

pub loop-rank-preserved : goal.loop-rank-preserved
loop-rank-preserved c = record {
  same = sym (looks_number c.args.values.now c.args.last c.loop-rank.rank c.args.value c.loop-rank-test.true false (other_test _ _ c.if-values-last.false)) ∙ c.loop-rank.invariant.same;
  small = omega (arith, c.loop-rank.invariant.small);
}
