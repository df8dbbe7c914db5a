use Rattle.std.proofs.Common.{◌+◌, ◌/◌, ◌∙◌, ap, arith}
use Rattle.os8_dates.proofs.DayLemmas.{never, none_plus, years_more, years_none}
use Rattle.os8_dates.proofs.days.date_of_seconds.Goals as goal

pub loop-passed-init : goal.loop-passed-init
loop-passed-init c = ap (λ n. n + c.args.seconds / 86400) years_none ∙ none_plus (c.args.seconds / 86400)

pub loop-passed-preserved : goal.loop-passed-preserved
loop-passed-preserved c =
    let is = c.loop-passed.invariant in
    let e = c.year_length-length.ensures in
    let more = years_more c.loop-passed.passed in
    omega (arith, is, e, more)

pub returns : goal.returns
returns c = never c.loop-passed.passed c.loop-passed.left (c.args.seconds / 86400) (omega arith) c.loop-passed.invariant
