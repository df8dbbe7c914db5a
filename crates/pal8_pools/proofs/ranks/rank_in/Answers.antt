use Rattle.std.proofs.Common.{sym, ◌∙◌, arith}
use Rattle.pal8_pools.proofs.ValueLemmas.{gets_new_value, gets_none, gets_old_value, not_more}
use Rattle.pal8_pools.proofs.ranks.rank_in.Goals as goal

pub returns-then-count-gt128-clause-rank : goal.returns-then-count-gt128-clause-rank
returns-then-count-gt128-clause-rank c = λ a asks is f p small value holds.
    absurd (omega (arith, c.if-count-gt128.true, not_more a asks c.args.values.now c.args.counts.now c.args.page c.from-count.result is f p small holds c.from-count.ensures))

pub returns-then-count-eq128-clause-rank : goal.returns-then-count-eq128-clause-rank
returns-then-count-eq128-clause-rank c = λ a asks is f p small value holds.
    gets_none a asks c.args.values.now c.args.counts.now c.args.page c.from-count.result is f p small holds c.from-count.ensures
    (rw (← value) (sym c.rank_below.ensures.rank ∙ c.in-None.is)) c.if-count-eq128.true

pub returns-in-Some-clause-rank : goal.returns-in-Some-clause-rank
returns-in-Some-clause-rank c = λ a asks is f p small value holds.
    gets_old_value a asks c.args.values.now c.args.counts.now c.args.page c.from-count.result is f p small holds c.from-count.ensures
    c.in-Some.rank (rw (← value) (sym c.rank_below.ensures.rank ∙ c.in-Some.is)) c.in-Some.ensures.range

pub returns-else-count-eq128-clause-rank : goal.returns-else-count-eq128-clause-rank
returns-else-count-eq128-clause-rank c = λ a asks is f p small value holds.
    rw value (gets_new_value a asks c.args.values.now c.args.counts.now c.args.page c.from-count.result is f p small holds c.from-count.ensures
    (rw (← value) (sym c.rank_below.ensures.rank ∙ c.in-None.is)) (omega (arith, c.if-count-gt128.false, c.if-count-eq128.false)) c.requires.values c.requires.counts)
