-- Days and their numbers.
use Rattle.std.proofs.Common.{◌≡◌, ℕ, zero, suc, ◌+◌, ◌-◌, ◌*◌, ◌/◌, ◌%◌, ◌<◌, ◌≤◌, nat_eq, Bool, true, false, not, if◌then◌else◌, Option, Some, None, refl, ap, sym, ◌∙◌, subst, arith, add-one}
use Rattle.std.specs.Prelude.{nat_le, unwrap_or}
use Rattle.std.proofs.lemmas.Bool.{leb-true, le-leb}
use Rattle.std.proofs.lemmas.Bool.Decides.{nat_tests}
use Rattle.os8_dates.specs.declared.dates.Date.{Date}
use Rattle.os8_dates.specs.declared.days.TheConstants.{NO_DATE}
use Rattle.os8_dates.specs.Dates.{date_in, days_in, fields_of, has_30_days, has_31_days, is_day, is_leap, word_of}
use Rattle.os8_dates.specs.Days.{date_at, day_after, day_number, days_of_months, days_of_years, if_spelled, next_day, seconds_of, time_if, time_of_word, word_if, word_of_time, year_length}
use Rattle.os8_dates.proofs.DateLemmas.{both, from_1970, not_none, words_come_back}

not_within : (a b : ℕ) → b < a → nat_le a b ≡ false
not_within a b before = grind (arith, nat_tests)

plus_none : (n : ℕ) → n + 0 ≡ n
plus_none n = omega arith

pub none_plus : (n : ℕ) → 0 + n ≡ n
none_plus n = omega arith

same_or_less : (n : ℕ) → n ≤ n
same_or_less n = omega arith

one_less : (n : ℕ) → n ≤ n + 1
one_less n = omega arith

-- ## Sums

pub years_none : days_of_years 0 ≡ 0
unfolding days_of_years
years_none = refl

pub years_more : (count : ℕ) → days_of_years (count + 1) ≡ days_of_years count + year_length (1970 + count)
unfolding days_of_years
years_more count = rw (add-one count) refl

pub months_none : (year : ℕ) → days_of_months year 0 ≡ 0
unfolding days_of_months
months_none year = refl

pub months_more : (year count : ℕ) → days_of_months year (count + 1) ≡ days_of_months year count + days_in year (count + 1)
unfolding days_of_months
months_more year count = rw (add-one count) refl

pub more_years : (passed days length : ℕ) → days ≡ days_of_years passed → days ≤ 366 * passed → length ≡ year_length (1970 + passed)
    → (days + length ≡ days_of_years (passed + 1)) × (days + length ≤ 366 * (passed + 1))
more_years passed days length is few e =
    let more = years_more passed in
    let long = year_is_long (1970 + passed) in
    (omega (arith, is, e, more), omega (arith, few, e, long))
  where
    year_is_long : (year : ℕ) → year_length year ≤ 366
    year_is_long year = go (is_leap year)
      where
        go : (a : Bool) → (if a then 366 else 365) ≤ 366
        go true = omega arith
        go false = omega arith

pub more_months : (year passed days length : ℕ) → days ≡ days_of_months year passed → days ≤ 31 * passed → length ≡ days_in year (passed + 1) → length ≤ 31
    → (days + length ≡ days_of_months year (passed + 1)) × (days + length ≤ 31 * (passed + 1))
more_months year passed days length is few e long =
    let more = months_more year passed in
    (omega (arith, is, e, more), omega (arith, few, long))

-- the months of a year have its days
pub whole_year : (year : ℕ) → days_of_months year 12 ≡ year_length year
unfolding days_of_months
whole_year year = go (is_leap year)
  where
    go : (leap : Bool) → 0 + 31 + (if leap then 29 else 28) + 31 + 30 + 31 + 30 + 31 + 31 + 30 + 31 + 30 + 31 ≡ (if leap then 366 else 365)
    go true = refl
    go false = refl

-- ## Days after days

days_none : day_after 0 ≡ record { year = 1970; month = 1; day = 1 }
unfolding day_after
days_none = refl

days_more : (count : ℕ) → day_after (count + 1) ≡ next_day (day_after count)
unfolding day_after
days_more count = rw (add-one count) refl

-- the day before leads to this one
step : (n m : ℕ) (day next : Date) → day_after n ≡ day → next_day day ≡ next → m ≡ n + 1 → day_after m ≡ next
step n m day next is goes e = ap day_after e ∙ days_more n ∙ ap next_day is ∙ goes

within_month : (y m d : ℕ) → d < days_in y m → next_day (record { year = y; month = m; day = d }) ≡ record { year = y; month = m; day = d + 1 }
within_month y m d before =
    ap (λ (b : Bool). if not b then record { year = y; month = m; day = d + 1 } else if nat_eq m 12 then record { year = y + 1; month = 1; day = 1 } else record { year = y; month = m + 1; day = 1 })
    (not_within (days_in y m) d before)

month_end : (y m : ℕ) → m < 12 → next_day (record { year = y; month = m; day = days_in y m }) ≡ record { year = y; month = m + 1; day = 1 }
month_end y m before =
    ap (λ (b : Bool). if not b then record { year = y; month = m; day = days_in y m + 1 } else if nat_eq m 12 then record { year = y + 1; month = 1; day = 1 } else record { year = y; month = m + 1; day = 1 })
    (le-leb (days_in y m) (days_in y m) (omega arith))
    ∙ ap (λ (b : Bool). if b then record { year = y + 1; month = 1; day = 1 } else record { year = y; month = m + 1; day = 1 }) (not_last m before)
  where
    not_last : (m : ℕ) → m < 12 → nat_eq m 12 ≡ false
    not_last m before = grind (arith, nat_tests)

pub in_month : (n y m k : ℕ) → day_after n ≡ record { year = y; month = m; day = 1 } → k < days_in y m → day_after (n + k) ≡ record { year = y; month = m; day = k + 1 }
in_month n y m zero is before = ap day_after (plus_none n) ∙ is
in_month n y m (suc k) is before =
    step (n + k) (n + suc k) (record { year = y; month = m; day = k + 1 }) (record { year = y; month = m; day = suc k + 1 })
    (in_month n y m k is (omega (arith, before)))
    (within_month y m (k + 1) (omega (arith, before)) ∙ ap (λ d. record { year = y; month = m; day = d }) (same k))
    (omega arith)
  where
    same : (k : ℕ) → k + 1 + 1 ≡ suc k + 1
    same k = omega arith

some_days : (y m : ℕ) → m < 12 → 1 ≤ days_in y (m + 1)
some_days y m before = go (has_31_days (m + 1)) refl (has_30_days (m + 1)) refl (nat_eq (m + 1) 2) refl (is_leap y)
  where
    none_left : (m : ℕ) → m < 12 → has_31_days (m + 1) ≡ false → has_30_days (m + 1) ≡ false → nat_eq (m + 1) 2 ≡ false → ⊥
    none_left m before a b c = grind (arith, nat_tests)

    go : (a : Bool) → has_31_days (m + 1) ≡ a → (b : Bool) → has_30_days (m + 1) ≡ b → (c : Bool) → nat_eq (m + 1) 2 ≡ c → (d : Bool)
        → 1 ≤ (if a then 31 else if b then 30 else if c then (if d then 29 else 28) else 0)
    go true e b f c g d = omega arith
    go false e true f c g d = omega arith
    go false e false f true g true = omega arith
    go false e false f true g false = omega arith
    go false e false f false g d = absurd (none_left m before e f g)

pub at_month : (n y m : ℕ) → day_after n ≡ record { year = y; month = 1; day = 1 } → m < 12 → day_after (n + days_of_months y m) ≡ record { year = y; month = m + 1; day = 1 }
at_month n y zero is before = ap day_after (let e = months_none y in omega (arith, e)) ∙ is
at_month n y (suc m) is before =
    let begin = at_month n y m is (omega (arith, before)) in
    let some = some_days y m (omega (arith, before)) in
    let last = in_month (n + days_of_months y m) y (m + 1) (days_in y (m + 1) - 1) begin (omega (arith, some)) in
    let more = months_more y m in
    step (n + days_of_months y m + (days_in y (m + 1) - 1)) (n + days_of_months y (suc m)) (record { year = y; month = m + 1; day = days_in y (m + 1) }) (record { year = y; month = suc m + 1; day = 1 })
    (last ∙ ap (λ d. record { year = y; month = m + 1; day = d }) (restored (days_in y (m + 1)) some))
    (month_end y (m + 1) (omega (arith, before)) ∙ ap (λ k. record { year = y; month = k; day = 1 }) (same m))
    (summed n (days_of_months y m) (days_of_months y (suc m)) (days_in y (m + 1)) some (ap (days_of_months y) (one_more m) ∙ more))
  where
    restored : (d : ℕ) → 1 ≤ d → d - 1 + 1 ≡ d
    restored d some = omega (arith, some)

    same : (k : ℕ) → k + 1 + 1 ≡ suc k + 1
    same k = omega arith

    one_more : (k : ℕ) → suc k ≡ k + 1
    one_more k = omega arith

    summed : (n before after d : ℕ) → 1 ≤ d → after ≡ before + d → n + after ≡ n + before + (d - 1) + 1
    summed n before after d some e = omega (arith, some, e)

new_year : (n y : ℕ) → day_after n ≡ record { year = y; month = 1; day = 1 } → day_after (n + year_length y) ≡ record { year = y + 1; month = 1; day = 1 }
new_year n y is =
    let december = at_month n y 11 is (omega arith) in
    let last = in_month (n + days_of_months y 11) y 12 30 december (omega arith) in
    let whole = whole_year y in
    let more = months_more y 11 in
    step (n + days_of_months y 11 + 30) (n + year_length y) (record { year = y; month = 12; day = 31 }) (record { year = y + 1; month = 1; day = 1 })
    last refl (summed n (days_of_months y 11) (days_of_months y 12) (year_length y) more whole)
  where
    summed : (n before after length : ℕ) → after ≡ before + 31 → after ≡ length → n + length ≡ n + before + 30 + 1
    summed n before after length more whole = omega (arith, more, whole)

pub at_year : (k : ℕ) → day_after (days_of_years k) ≡ record { year = 1970 + k; month = 1; day = 1 }
at_year zero = ap day_after years_none ∙ days_none
at_year (suc k) =
    ap day_after (ap days_of_years (one_more k) ∙ years_more k) ∙ new_year (days_of_years k) (1970 + k) (at_year k)
    ∙ ap (λ y. record { year = y; month = 1; day = 1 }) (same k)
  where
    one_more : (k : ℕ) → suc k ≡ k + 1
    one_more k = omega arith

    same : (k : ℕ) → 1970 + k + 1 ≡ 1970 + suc k
    same k = omega arith

-- the day of a month of a year is the day of its number
pub at_day : (k m d : ℕ) → m < 12 → d < days_in (1970 + k) (m + 1) → day_after (days_of_years k + days_of_months (1970 + k) m + d) ≡ record { year = 1970 + k; month = m + 1; day = d + 1 }
at_day k m d within before = in_month (days_of_years k + days_of_months (1970 + k) m) (1970 + k) (m + 1) d (at_month (days_of_years k) (1970 + k) m (at_year k) within) before

-- ## The code's steps

pub found : (k m left given length : ℕ) → m < 12 → days_of_months (1970 + k) m + left ≡ given → length ≡ days_in (1970 + k) (m + 1) → left < length
    → Some (record { year = 1970 + k; month = m + 1; day = left + 1 }) ≡ Some (day_after (days_of_years k + given))
found k m left given length within is e before =
    ap (λ d. Some d) (sym (at_day k m left within (subst (λ n. left < n) e before)) ∙ ap day_after (summed (days_of_years k) (days_of_months (1970 + k) m) left given is))
  where
    summed : (a b c d : ℕ) → b + c ≡ d → a + b + c ≡ a + d
    summed a b c d e = omega (arith, e)

pub no_more_days : (year months left given : ℕ) → months ≡ 12 → days_of_months year months + left ≡ given → given < year_length year → ⊥
no_more_days year months left given all is before =
    let whole = ap (days_of_months year) all ∙ whole_year year in
    omega (arith, whole, is, before)

abbrev next_of : Date → Bool → Bool → Date
next_of day a b = if not a then record { year = day.year; month = day.month; day = day.day + 1 } else if b then record { year = day.year + 1; month = 1; day = 1 } else record { year = day.year; month = day.month + 1; day = 1 }

not_earlier : (day : Date) → day.year ≤ (next_day day).year
not_earlier day = go (nat_le (days_in day.year day.month) day.day) (nat_eq day.month 12)
  where
    go : (a b : Bool) → day.year ≤ (next_of day a b).year
    go false b = same_or_less day.year
    go true true = one_less day.year
    go true false = same_or_less day.year

pub year_from : (k n : ℕ) → 1970 + k ≤ (day_after (days_of_years k + n)).year
year_from k zero = (let e = ap (λ (d : Date). d.year) (ap day_after (plus_none (days_of_years k)) ∙ at_year k) in omega (arith, e))
year_from k (suc n) =
    let before = year_from k n in
    let later = not_earlier (day_after (days_of_years k + n)) in
    let e = ap (λ (d : Date). d.year) (ap day_after (one_more (days_of_years k) n) ∙ days_more (days_of_years k + n)) in
    omega (arith, before, later, e)
  where
    one_more : (a n : ℕ) → a + suc n ≡ a + n + 1
    one_more a n = omega arith

pub never : (k left number : ℕ) → k ≡ 8030 → days_of_years k + left ≡ number → None ≡ if_spelled (day_after number)
never k left number all is =
    let from = year_from k left in
    let e = ap (λ n. (day_after n).year) is in
    sym (ap (λ (b : Bool). if b then Some (day_after number) else None) (not_within (day_after number).year 9999 (omega (arith, from, all, e))))

pub spelled : (number k : ℕ) (result : Option Date) → k < 8030 → result ≡ Some (day_after number) → ((date : Date) → result ≡ Some date → date.year ≡ 1970 + k) → result ≡ if_spelled (day_after number)
spelled number k result few is year =
    let e = year (day_after number) is in
    is ∙ sym (ap (λ (b : Bool). if b then Some (day_after number) else None) (le-leb (day_after number).year 9999 (omega (arith, few, e))))

-- ## Times come back

whole_days : (n : ℕ) → (86400 * n + 43200) / 86400 ≡ n
whole_days n = omega arith

days_of_no_month : (year : ℕ) → days_in year 0 ≡ 0
days_of_no_month year = refl

late_month : (y m : ℕ) → 12 < m → days_in y m ≡ 0
late_month y m late =
    ap (λ (a : Bool). if a then 31 else if has_30_days m then 30 else if nat_eq m 2 then (if is_leap y then 29 else 28) else 0) (no_31 m late)
    ∙ ap (λ (b : Bool). if b then 30 else if nat_eq m 2 then (if is_leap y then 29 else 28) else 0) (no_30 m late)
    ∙ ap (λ (c : Bool). if c then (if is_leap y then 29 else 28) else 0) (no_2 m late)
  where
    no_31 : (m : ℕ) → 12 < m → has_31_days m ≡ false
    no_31 m late = grind (arith, nat_tests)

    no_30 : (m : ℕ) → 12 < m → has_30_days m ≡ false
    no_30 m late = grind (arith, nat_tests)

    no_2 : (m : ℕ) → 12 < m → nat_eq m 2 ≡ false
    no_2 m late = grind (arith, nat_tests)

is_month : (y m : ℕ) → 1 ≤ days_in y m → (1 ≤ m) × (m ≤ 12)
is_month y zero some = absurd (omega (arith, some))
is_month y (suc m) some = (omega arith, go (nat_le (suc m) 12) refl)
  where
    go : (b : Bool) → nat_le (suc m) 12 ≡ b → suc m ≤ 12
    go true e = leb-true (suc m) 12 e
    go false e =
        let late = past (suc m) e in
        let none = late_month y (suc m) late in
        absurd (omega (arith, none, some))
      where
        past : (n : ℕ) → nat_le n 12 ≡ false → 12 < n
        past n e = grind (arith, nat_tests)

back : (k m d year month day : ℕ) → year ≡ 1970 + k → month ≡ m + 1 → day ≡ d + 1 → m < 12 → d < days_in year month
    → day_after (days_of_years k + days_of_months year m + d) ≡ record { year = year; month = month; day = day }
back k m d year month day ey em ed within before = rw (ey, em, ed) (at_day k m d within (rw (ey, em) at before))

pub number_back : (date : Date) → is_day date ≡ true → 1970 ≤ date.year → day_after (day_number date) ≡ date
number_back date holds from =
    let parts = both (nat_le 1 date.day) (nat_le date.day (days_in date.year date.month)) holds in
    let some = leb-true 1 date.day parts.0 in
    let within = leb-true date.day (days_in date.year date.month) parts.1 in
    let month = is_month date.year date.month (omega (arith, some, within)) in
    let least = month.0 in
    let most = month.1 in
    back (date.year - 1970) (date.month - 1) (date.day - 1) date.year date.month date.day (omega (arith, from)) (omega (arith, least)) (omega (arith, some)) (omega (arith, least, most)) (omega (arith, some, within))

pub times_come_back : (date : Date) → is_day date ≡ true → 1970 ≤ date.year → date.year ≤ 9999 → date_at (seconds_of date) ≡ Some date
times_come_back date holds from small =
    ap (λ n. if_spelled (day_after n)) (whole_days (day_number date)) ∙ ap if_spelled (number_back date holds from)
    ∙ ap (λ (b : Bool). if b then Some date else None) (le-leb date.year 9999 small)

same_day : (last word : ℕ) (date : Date) (b : Bool) → is_day (fields_of last word) ≡ b → (if b then Some (fields_of last word) else None) ≡ Some date → (is_day date ≡ true) × (fields_of last word ≡ date)
same_day last word date false fails e = absurd (not_none date e)
same_day last word date true holds e =
    let same = ap (λ o. unwrap_or o (fields_of last word)) e in
    (ap is_day (sym same) ∙ holds, same)

-- a word that is a date comes back from the time of that
words_through_times : (last word : ℕ) (date : Date) → 1977 ≤ last → last ≤ 9999 → word < 4096 → date_in last word ≡ Some date → (date_at (seconds_of date) ≡ Some date) × (word_of date ≡ Some word)
words_through_times last word date least most small is =
    let day = same_day last word date (is_day (fields_of last word)) refl is in
    let from = from_1970 last word least in
    let year = ap (λ (d : Date). d.year) day.1 in
    let not_after = up_to last (last - 1970 - word % 8) in
    (times_come_back date day.0 (omega (arith, from, year)) (omega (arith, most, year, not_after)), words_come_back last word date least small is)
  where
    up_to : (last n : ℕ) → last - n % 8 ≤ last
    up_to last n = omega arith

-- noon of a day is after the begin of the first
after_none : (n : ℕ) → nat_eq (86400 * n + 43200) NO_DATE ≡ false
after_none n = grind arith

pub times_keep_words : (last word seconds : ℕ) → 1977 ≤ last → last ≤ 9999 → word < 4096 → time_of_word last word ≡ Some seconds → word_of_time seconds ≡ Some word
times_keep_words last word seconds least most small is = go (date_in last word) refl is
  where
    go : (found : Option Date) → date_in last word ≡ found → time_if found ≡ Some seconds → word_of_time seconds ≡ Some word
    go None none e = absurd (not_none seconds e)
    go (Some date) some e =
        let back = words_through_times last word date least most small some in
        ap word_of_time (sym (ap (λ o. unwrap_or o 0) e)) ∙ ap (λ (b : Bool). if b then None else word_if (date_at (seconds_of date))) (after_none (day_number date)) ∙ ap word_if back.0 ∙ back.1
