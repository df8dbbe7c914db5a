use Rattle.std.proofs.Common.{◌+◌, ◌∙◌, sym, arith}
use Rattle.os8_dates.proofs.DateLemmas.{few_days}
use Rattle.os8_dates.proofs.DayLemmas.{more_months, months_none}
use Rattle.os8_dates.proofs.days.days_of_months.Goals as goal

pub loop-passed-init : goal.loop-passed-init
loop-passed-init c = (sym (months_none c.args.year), omega arith)

pub loop-passed-preserved : goal.loop-passed-preserved
loop-passed-preserved c =
    let e = c.from-days.ensures ∙ c.days_in.ensures in
    let few = few_days c.args.year (c.loop-passed.passed + 1) in
    more_months c.args.year c.loop-passed.passed c.loop-passed.days c.from-days.result c.loop-passed.invariant.0 c.loop-passed.invariant.1 e (omega (arith, e, few))
