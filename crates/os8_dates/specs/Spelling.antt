-- How dates are spelled (this project's profile).
use Rattle.std.specs.Prelude.{ℕ, ◌+◌, ◌-◌, ◌*◌, ◌/◌, ◌%◌, nat_eq, ◌&&◌, if◌then◌else◌, Option, Some, None, List, [], ◌∷◌}
use Rattle.word12.specs.Octal.{octal4}
use Rattle.word12.specs.Sixbit.{is_digit}
use Rattle.os8_dates.specs.declared.dates.Date.{Date}
use Rattle.os8_dates.specs.Dates.{date_in, is_day}

-- the last decimal digit of a number
abbrev pub digit : ℕ → ℕ
digit number = 0o60 + number % 10

-- four digits of the year, two of the month and two of the day, with `-` between
abbrev pub spelled_date : Date → List ℕ
spelled_date date =
    digit (date.year / 1000) ∷ digit (date.year / 100) ∷ digit (date.year / 10) ∷ digit date.year ∷ 0o55
    ∷ digit (date.month / 10) ∷ digit date.month ∷ 0o55 ∷ digit (date.day / 10) ∷ digit date.day ∷ []

-- a date, or else the octal digits of its word
abbrev pub or_octal : Option Date → ℕ → List ℕ
or_octal None word = octal4 word
or_octal (Some date) word = spelled_date date

-- what a date word means among the eight years up to a last one: 0 is no date
abbrev pub text_of_date : ℕ → ℕ → List ℕ
text_of_date last word = if nat_eq word 0 then 0o55 ∷ [] else or_octal (date_in last word) word

-- the number that two decimal digits spell
abbrev pub number_of : ℕ → ℕ → Option ℕ
number_of tens ones = if is_digit tens && is_digit ones then Some (10 * (tens - 0o60) + (ones - 0o60)) else None

-- a day of the calendar
abbrev pub if_day : Date → Option Date
if_day date = if is_day date then Some date else None

-- the date of these numbers, where all are numbers
abbrev pub date_if_numbers : Option ℕ → Option ℕ → Option ℕ → Option ℕ → Option Date
date_if_numbers (Some century) (Some year) (Some month) (Some day) = if_day (record { year = 100 * century + year; month = month; day = day })
date_if_numbers None year month day = None
date_if_numbers (Some century) None month day = None
date_if_numbers (Some century) (Some year) None day = None
date_if_numbers (Some century) (Some year) (Some month) None = None

-- the date that a text spells
abbrev pub parsed_date : List ℕ → Option Date
parsed_date (a ∷ b ∷ c ∷ d ∷ first ∷ e ∷ f ∷ second ∷ g ∷ h ∷ []) =
    if nat_eq first 0o55 && nat_eq second 0o55 then date_if_numbers (number_of a b) (number_of c d) (number_of e f) (number_of g h) else None
parsed_date _ = None
