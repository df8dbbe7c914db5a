use Rattle.std.proofs.Common.{◌≡◌, ◌*◌, ◌≤◌}
use Rattle.os8_dates.specs.Days.{days_of_years}
use Rattle.os8_dates.proofs.days.days_of_years.Given as goal

-- the years so far are counted
abbrev pub invariant-loop-passed : goal.invariant-loop-passed
invariant-loop-passed l = (l.days ≡ days_of_years l.passed) × (l.days ≤ 366 * l.passed)
