-- Days one after the other (the Gregorian calendar), and the times of the host's files, in seconds after the begin of 1970 in UTC, of which a
-- day has 86400 (POSIX, "Seconds Since the Epoch").
use Rattle.std.specs.Prelude.{ℕ, zero, suc, ◌+◌, ◌-◌, ◌*◌, ◌/◌, nat_eq, nat_le, not, if◌then◌else◌, Option, Some, None}
use Rattle.os8_dates.specs.declared.dates.Date.{Date}
use Rattle.os8_dates.specs.declared.days.TheConstants.{NO_DATE}
use Rattle.os8_dates.specs.declared.years.TheConstants.{FIRST_YEAR, LAST_YEAR}
use Rattle.os8_dates.specs.Dates.{date_in, days_in, is_leap, word_of}

-- ## Days by their numbers

-- how many days a year has
abbrev pub year_length : ℕ → ℕ
year_length year = if is_leap year then 366 else 365

-- how many days so many years from 1970 on have
unfoldable pub days_of_years : ℕ → ℕ
days_of_years zero = 0
days_of_years (suc count) = days_of_years count + year_length (FIRST_YEAR + count)

-- how many days so many months of a year have, from the first on
unfoldable pub days_of_months : ℕ → ℕ → ℕ
days_of_months year zero = 0
days_of_months year (suc count) = days_of_months year count + days_in year (suc count)

-- how many days there are from the 1st of January 1970 to a day
abbrev pub day_number : Date → ℕ
day_number date = days_of_years (date.year - FIRST_YEAR) + days_of_months date.year (date.month - 1) + (date.day - 1)

-- ## The day of a number

-- the day after a day
abbrev pub next_day : Date → Date
next_day date =
    if not (nat_le (days_in date.year date.month) date.day) then record { year = date.year; month = date.month; day = date.day + 1 }
    else if nat_eq date.month 12 then record { year = date.year + 1; month = 1; day = 1 }
    else record { year = date.year; month = date.month + 1; day = 1 }

-- the day so many days after the 1st of January 1970
unfoldable pub day_after : ℕ → Date
day_after zero = record { year = FIRST_YEAR; month = 1; day = 1 }
day_after (suc count) = next_day (day_after count)

-- ## Times

-- noon of a day, so most of the world has that day then
abbrev pub seconds_of : Date → ℕ
seconds_of date = 86400 * day_number date + 43200

-- a day of a year that four digits spell
abbrev pub if_spelled : Date → Option Date
if_spelled date = if nat_le date.year LAST_YEAR then Some date else None

-- the day of a time
abbrev pub date_at : ℕ → Option Date
date_at seconds = if_spelled (day_after (seconds / 86400))

-- ## Words and times

abbrev pub time_if : Option Date → Option ℕ
time_if None = None
time_if (Some date) = Some (seconds_of date)

-- the time of the date that a word means among the eight years up to a last one
abbrev pub time_of_word : ℕ → ℕ → Option ℕ
time_of_word last word = time_if (date_in last word)

abbrev pub word_if : Option Date → Option ℕ
word_if None = None
word_if (Some date) = word_of date

-- the word of the day of a time; that of files with no date has none
abbrev pub word_of_time : ℕ → Option ℕ
word_of_time seconds = if nat_eq seconds NO_DATE then None else word_if (date_at seconds)
