-- What holds of dates, their words and their spelling.
use Rattle.std.specs.Prelude.{◌≡◌, ℕ, ◌+◌, ◌-◌, ◌%◌, ◌<◌, ◌≤◌, true, Some}
use Rattle.os8_dates.specs.declared.dates.Date.{Date}
use Rattle.os8_dates.specs.declared.years.TheConstants.{FIRST_YEAR, LAST_YEAR, LEAST_LAST}
use Rattle.os8_dates.specs.Dates.{date_in, is_day, word_of, year_in}
use Rattle.os8_dates.specs.Days.{date_at, day_after, day_number, seconds_of, time_of_word, word_of_time}
use Rattle.os8_dates.specs.Spelling.{parsed_date, spelled_date}

-- a word that means a date is the word of that date
abbrev pub WordsComeBack : Type 0
WordsComeBack = (last word : ℕ) (date : Date) → LEAST_LAST ≤ last → word < 0o10000 → date_in last word ≡ Some date → word_of date ≡ Some word

-- a date is what its word means among eight years that have its own
abbrev pub DatesComeBack : Type 0
DatesComeBack =
    (last word : ℕ) (date : Date) → LEAST_LAST ≤ last → last < date.year + 8 → date.year ≤ last → word_of date ≡ Some word
    → date_in last word ≡ Some date

-- of eight years just one has the bits of a word, and its date has that year
abbrev pub OneYearOfEight : Type 0
OneYearOfEight =
    (last word year : ℕ) → LEAST_LAST ≤ last → last < year + 8 → year ≤ last → (year - FIRST_YEAR) % 8 ≡ word % 8 → FIRST_YEAR ≤ year → year_in last word ≡ year

-- what is spelled is parsed as the date
abbrev pub ParsesWhatItSpells : Type 0
ParsesWhatItSpells = (date : Date) → is_day date ≡ true → date.year ≤ LAST_YEAR → parsed_date (spelled_date date) ≡ Some date

-- a day of the calendar from 1970 on is the one that its number counts to
abbrev pub NumbersComeBack : Type 0
NumbersComeBack = (date : Date) → is_day date ≡ true → FIRST_YEAR ≤ date.year → day_after (day_number date) ≡ date

-- such a day is that of its time
abbrev pub TimesComeBack : Type 0
TimesComeBack = (date : Date) → is_day date ≡ true → FIRST_YEAR ≤ date.year → date.year ≤ LAST_YEAR → date_at (seconds_of date) ≡ Some date

-- the time of the date that a word means gives that word
abbrev pub TimesKeepWords : Type 0
TimesKeepWords =
    (last word seconds : ℕ) → LEAST_LAST ≤ last → last ≤ LAST_YEAR → word < 0o10000 → time_of_word last word ≡ Some seconds → word_of_time seconds ≡ Some word
