use Rattle.std.proofs.Common.{◌≡◌, ◌*◌, ◌≤◌}
use Rattle.os8_dates.specs.Days.{days_of_months}
use Rattle.os8_dates.proofs.days.days_of_months.Given as goal

-- the months so far are counted
abbrev pub invariant-loop-passed : goal.invariant-loop-passed
invariant-loop-passed l = (l.days ≡ days_of_months l.fn.year l.passed) × (l.days ≤ 31 * l.passed)
