-- Dates, words and texts come back.
use Rattle.std.proofs.Common.{◌≡◌, ℕ, ◌+◌, ◌-◌, ◌*◌, ◌/◌, ◌%◌, ◌<◌, ◌≤◌, nat_eq, Bool, true, false, ◌&&◌, if◌then◌else◌, Some, None, refl, ap, sym, ◌∙◌, arith}
use Rattle.std.specs.Prelude.{nat_le, unwrap_or}
use Rattle.std.proofs.lemmas.Bool.{leb-true, le-leb}
use Rattle.std.proofs.lemmas.Bool.Decides.{nat_tests}
use Rattle.word12.specs.Sixbit.{is_digit}
use Rattle.os8_dates.specs.declared.dates.Date.{Date}
use Rattle.os8_dates.specs.Dates.{date_in, days_in, fields_of, has_30_days, has_31_days, is_day, is_leap, word_of, year_in}
use Rattle.os8_dates.specs.Spelling.{digit, if_day, date_if_numbers, number_of, parsed_date, spelled_date}

pub both : (a b : Bool) → (a && b) ≡ true → (a ≡ true) × (b ≡ true)
both true b e = (refl, e)
both false b e = absurd (cc e)

pub not_none : {A : Type 0} (a : A) → None ≡ Some a → ⊥
not_none a e = cc

-- ## Days

pub few_days : (year month : ℕ) → days_in year month ≤ 31
few_days year month = go (has_31_days month) (has_30_days month) (nat_eq month 2) (is_leap year)
  where
    go : (a b c d : Bool) → (if a then 31 else if b then 30 else if c then (if d then 29 else 28) else 0) ≤ 31
    go true b c d = omega arith
    go false true c d = omega arith
    go false false true true = omega arith
    go false false true false = omega arith
    go false false false d = omega arith

small_31 : (month : ℕ) → has_31_days month ≡ true → month < 100
small_31 month e = grind (arith, nat_tests)

small_30 : (month : ℕ) → has_30_days month ≡ true → month < 100
small_30 month e = grind (arith, nat_tests)

small_2 : (month : ℕ) → nat_eq month 2 ≡ true → month < 100
small_2 month e = grind (arith, nat_tests)

-- a month that has a day
small_month : (year month day : ℕ) → 1 ≤ day → day ≤ days_in year month → month < 100
small_month year month day some within = go (has_31_days month) refl (has_30_days month) refl (nat_eq month 2) refl within
  where
    go : (a : Bool) → has_31_days month ≡ a → (b : Bool) → has_30_days month ≡ b → (c : Bool) → nat_eq month 2 ≡ c
        → day ≤ (if a then 31 else if b then 30 else if c then (if is_leap year then 29 else 28) else 0) → month < 100
    go true e b f c g h = small_31 month e
    go false e true f c g h = small_30 month f
    go false e false f true g h = small_2 month g
    go false e false f false g h = absurd (omega (arith, some, h))

pub record Day (date : Date) : Type 0 where
  pub some : 1 ≤ date.day
  pub few : date.day ≤ 31
  pub month : date.month < 100

pub day_is : (date : Date) → is_day date ≡ true → Day date
day_is date e =
    let parts = both (nat_le 1 date.day) (nat_le date.day (days_in date.year date.month)) e in
    let some = leb-true 1 date.day parts.0 in
    let within = leb-true date.day (days_in date.year date.month) parts.1 in
    let few = few_days date.year date.month in
    record { some = some; few = omega (arith, within, few); month = small_month date.year date.month date.day some within }

-- ## Words

pub from_1970 : (last word : ℕ) → 1977 ≤ last → 1970 ≤ year_in last word
from_1970 last word least = omega (arith, least)

same_word : (last word : ℕ) → 1977 ≤ last → 256 * (word / 256) + 8 * (word / 8 % 32) + (year_in last word - 1970) % 8 ≡ word
same_word last word least = omega (arith, least)

pub words_come_back : (last word : ℕ) (date : Date) → 1977 ≤ last → word < 4096 → date_in last word ≡ Some date → word_of date ≡ Some word
words_come_back last word date least small is = by_day (is_day (fields_of last word)) refl is
  where
    by_day : (b : Bool) → is_day (fields_of last word) ≡ b → (if b then Some (fields_of last word) else None) ≡ Some date → word_of date ≡ Some word
    by_day false fails e = absurd (not_none date e)
    by_day true holds e =
        let same = ap (λ o. unwrap_or o (fields_of last word)) e in
        let le = le-leb 1970 (year_in last word) (from_1970 last word least) in
        let value = 256 * (word / 256) + 8 * (word / 8 % 32) + (year_in last word - 1970) % 8 in
        ap word_of (sym same)
        ∙ ap (λ (b : Bool). if b then Some value else None) (ap (λ (b : Bool). b && is_day (fields_of last word)) le ∙ holds)
        ∙ ap (λ n. Some n) (same_word last word least)

month_back : (month day year : ℕ) → day ≤ 31 → (256 * month + 8 * day + year % 8) / 256 ≡ month
month_back month day year few = omega (arith, few)

day_back : (month day year : ℕ) → day ≤ 31 → (256 * month + 8 * day + year % 8) / 8 % 32 ≡ day
day_back month day year few = omega (arith, few)

year_back : (last month day year : ℕ) → 1977 ≤ last → last < year + 8 → year ≤ last → 1970 ≤ year
    → last - (last - 1970 - (256 * month + 8 * day + (year - 1970) % 8) % 8) % 8 ≡ year
year_back last month day year least near within from = omega (arith, least, near, within, from)

pub dates_come_back : (last word : ℕ) (date : Date) → 1977 ≤ last → last < date.year + 8 → date.year ≤ last → word_of date ≡ Some word
    → date_in last word ≡ Some date
dates_come_back last word date least near within is = by_test (nat_le 1970 date.year && is_day date) refl is
  where
    value : ℕ
    value = 256 * date.month + 8 * date.day + (date.year - 1970) % 8

    by_test : (b : Bool) → (nat_le 1970 date.year && is_day date) ≡ b → (if b then Some (256 * date.month + 8 * date.day + (date.year - 1970) % 8) else None) ≡ Some word
        → date_in last word ≡ Some date
    by_test false fails e = absurd (not_none word e)
    by_test true holds e =
        let same = ap (λ o. unwrap_or o 0) e in
        let parts = both (nat_le 1970 date.year) (is_day date) holds in
        let from = leb-true 1970 date.year parts.0 in
        let few = (day_is date parts.1).few in
        let fields : fields_of last (256 * date.month + 8 * date.day + (date.year - 1970) % 8) ≡ date =
        ap (λ y. record { year = y; month = (256 * date.month + 8 * date.day + (date.year - 1970) % 8) / 256; day = (256 * date.month + 8 * date.day + (date.year - 1970) % 8) / 8 % 32 })
        (year_back last date.month date.day date.year least near within from)
        ∙ ap (λ m. record { year = date.year; month = m; day = (256 * date.month + 8 * date.day + (date.year - 1970) % 8) / 8 % 32 })
        (month_back date.month date.day (date.year - 1970) few)
        ∙ ap (λ d. record { year = date.year; month = date.month; day = d }) (day_back date.month date.day (date.year - 1970) few)
        in
        ap (λ w. date_in last w) (sym same)
        ∙ ap (λ (d : Date). if is_day d then Some d else None) fields
        ∙ ap (λ (b : Bool). if b then Some date else None) parts.1

-- ## Texts

digit_is : (n : ℕ) → is_digit (48 + n % 10) ≡ true
digit_is n = grind (arith, nat_tests)

number_back : (a b : ℕ) → number_of (digit a) (digit b) ≡ Some (10 * (a % 10) + b % 10)
number_back a b =
    ap (λ (t : Bool). if t && is_digit (digit b) then Some (10 * (digit a - 48) + (digit b - 48)) else None) (digit_is a)
    ∙ ap (λ (t : Bool). if t then Some (10 * (digit a - 48) + (digit b - 48)) else None) (digit_is b)
    ∙ ap (λ n. Some n) (value a b)
  where
    value : (a b : ℕ) → 10 * (48 + a % 10 - 48) + (48 + b % 10 - 48) ≡ 10 * (a % 10) + b % 10
    value a b = omega arith

two_back : (n : ℕ) → n < 100 → 10 * (n / 10 % 10) + n % 10 ≡ n
two_back n small = omega (arith, small)

four_back : (n : ℕ) → n ≤ 9999 → 100 * (10 * (n / 1000 % 10) + n / 100 % 10) + (10 * (n / 10 % 10) + n % 10) ≡ n
four_back n small = omega (arith, small)

pub spelled_is_parsed : (date : Date) → is_day date ≡ true → date.year ≤ 9999 → parsed_date (spelled_date date) ≡ Some date
spelled_is_parsed date holds small =
    let day = day_is date holds in
    let y = date.year in
    let m = date.month in
    let d = date.day in
    let few : d < 100 = (let h = day.few in omega (arith, h)) in
    ap (λ o. date_if_numbers o (number_of (digit (y / 10)) (digit y)) (number_of (digit (m / 10)) (digit m)) (number_of (digit (d / 10)) (digit d))) (number_back (y / 1000) (y / 100))
    ∙ ap (λ o. date_if_numbers (Some (10 * (y / 1000 % 10) + y / 100 % 10)) o (number_of (digit (m / 10)) (digit m)) (number_of (digit (d / 10)) (digit d))) (number_back (y / 10) y)
    ∙ ap (λ o. date_if_numbers (Some (10 * (y / 1000 % 10) + y / 100 % 10)) (Some (10 * (y / 10 % 10) + y % 10)) o (number_of (digit (d / 10)) (digit d))) (number_back (m / 10) m)
    ∙ ap (λ o. date_if_numbers (Some (10 * (y / 1000 % 10) + y / 100 % 10)) (Some (10 * (y / 10 % 10) + y % 10)) (Some (10 * (m / 10 % 10) + m % 10)) o) (number_back (d / 10) d)
    ∙ ap (λ n. if_day (record { year = n; month = 10 * (m / 10 % 10) + m % 10; day = 10 * (d / 10 % 10) + d % 10 })) (four_back y small)
    ∙ ap (λ n. if_day (record { year = y; month = n; day = 10 * (d / 10 % 10) + d % 10 })) (two_back m day.month)
    ∙ ap (λ n. if_day (record { year = y; month = m; day = n })) (two_back d few)
    ∙ ap (λ (b : Bool). if b then Some date else None) holds
