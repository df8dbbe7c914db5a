use Rattle.std.proofs.Common.{sym, arith}
use Rattle.os8_dates.proofs.DayLemmas.{more_years, years_none}
use Rattle.os8_dates.proofs.days.days_of_years.Goals as goal

pub loop-passed-init : goal.loop-passed-init
loop-passed-init c = (sym years_none, omega arith)

pub loop-passed-preserved : goal.loop-passed-preserved
loop-passed-preserved c = more_years c.loop-passed.passed c.loop-passed.days c.year_length-days.result c.loop-passed.invariant.0 c.loop-passed.invariant.1 c.year_length-days.ensures
