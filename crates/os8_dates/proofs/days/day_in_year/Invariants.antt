use Rattle.std.proofs.Common.{◌≡◌, ◌+◌}
use Rattle.os8_dates.specs.Days.{days_of_months}
use Rattle.os8_dates.proofs.days.day_in_year.Given as goal

-- the months so far and the days that are left make up what was given
abbrev pub invariant-loop-months : goal.invariant-loop-months
invariant-loop-months l = days_of_months l.year l.months + l.left ≡ l.fn.given
