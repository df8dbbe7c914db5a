-- Dates as OS/8 keeps them (OS/8 Software Support Manual).
use Rattle.std.specs.Prelude.{ℕ, ◌+◌, ◌-◌, ◌*◌, ◌/◌, ◌%◌, nat_eq, nat_le, Bool, not, ◌&&◌, ◌||◌, if◌then◌else◌, Option, Some, None}
use Rattle.os8_dates.specs.declared.dates.Date.{Date}
use Rattle.os8_dates.specs.declared.years.TheConstants.{FIRST_YEAR, LEAST_LAST}

-- ## The calendar

-- a year has a 29th of February
abbrev pub is_leap : ℕ → Bool
is_leap year = nat_eq (year % 4) 0 && (not (nat_eq (year % 100) 0) || nat_eq (year % 400) 0)

abbrev pub has_31_days : ℕ → Bool
has_31_days month =
    nat_eq month 1 || (nat_eq month 3 || (nat_eq month 5 || (nat_eq month 7 || (nat_eq month 8 || (nat_eq month 10 || nat_eq month 12)))))

abbrev pub has_30_days : ℕ → Bool
has_30_days month = nat_eq month 4 || (nat_eq month 6 || (nat_eq month 9 || nat_eq month 11))

-- how many days a month has in a year, its number from 1; no other number is a month's
abbrev pub days_in : ℕ → ℕ → ℕ
days_in year month =
    if has_31_days month then 31 else if has_30_days month then 30
    else if nat_eq month 2 then (if is_leap year then 29 else 28) else 0

-- a date is a day of the calendar
abbrev pub is_day : Date → Bool
is_day date = nat_le 1 date.day && nat_le date.day (days_in date.year date.month)

-- ## Words

-- the last of the eight years that the extension gives, which is in bits 3 and 4 of the word at 07777
abbrev pub last_year : ℕ → ℕ
last_year word = LEAST_LAST + 8 * (word / 0o200 % 4)

-- The year that a word means: bits 9 to 11 are the year less 1970, modulo 8. It is the latest such year that is not after the last one.
abbrev pub year_in : ℕ → ℕ → ℕ
year_in last word = last - (last - FIRST_YEAR - word % 8) % 8

-- bits 0 to 3 are the month, and bits 4 to 8 the day
abbrev pub fields_of : ℕ → ℕ → Date
fields_of last word = record { year = year_in last word; month = word / 0o400; day = word / 8 % 0o40 }

-- the date that a word means among the eight years up to a last one, where that is a day of the calendar
abbrev pub date_in : ℕ → ℕ → Option Date
date_in last word = if is_day (fields_of last word) then Some (fields_of last word) else None

-- the word of a date from 1970 on
abbrev pub word_of : Date → Option ℕ
word_of date =
    if nat_le FIRST_YEAR date.year && is_day date then Some (0o400 * date.month + 8 * date.day + (date.year - FIRST_YEAR) % 8) else None
