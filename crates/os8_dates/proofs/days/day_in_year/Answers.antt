use Rattle.std.proofs.Common.{◌+◌, ◌∙◌, ap, arith}
use Rattle.os8_dates.proofs.DayLemmas.{found, months_more, months_none, no_more_days, none_plus}
use Rattle.os8_dates.proofs.days.day_in_year.Goals as goal

pub loop-months-init : goal.loop-months-init
loop-months-init c = ap (λ n. n + c.args.given) (months_none (1970 + c.args.passed)) ∙ none_plus c.args.given

pub returns-then-left-length-clause-day : goal.returns-then-left-length-clause-day
returns-then-left-length-clause-day c =
    found c.args.passed c.loop-months.months c.loop-months.left c.args.given c.from-length.result (omega arith) c.loop-months.invariant (c.from-length.ensures ∙ c.days_in.ensures) (omega arith)

pub loop-months-preserved : goal.loop-months-preserved
loop-months-preserved c =
    let is = c.loop-months.invariant in
    let e = c.from-length.ensures ∙ c.days_in.ensures in
    let more = months_more (1970 + c.args.passed) c.loop-months.months in
    omega (arith, is, e, more)

pub returns-clause-day : goal.returns-clause-day
returns-clause-day c = absurd (no_more_days (1970 + c.args.passed) c.loop-months.months c.loop-months.left c.args.given (omega arith) c.loop-months.invariant c.requires.day)
