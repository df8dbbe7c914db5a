use Rattle.std.proofs.Common.{◌≡◌, ◌+◌, ◌/◌}
use Rattle.os8_dates.specs.Days.{days_of_years}
use Rattle.os8_dates.proofs.days.date_of_seconds.Given as goal

-- the years so far and the days that are left make up those of the time
abbrev pub invariant-loop-passed : goal.invariant-loop-passed
invariant-loop-passed l = days_of_years l.passed + l.left ≡ l.fn.seconds / 86400
