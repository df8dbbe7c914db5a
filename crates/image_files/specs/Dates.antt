-- The day on which a file of the host was last changed.
use Rattle.std.specs.Prelude.{◌≡◌, ℕ, Bool, true, false, Option, None, Some, Result, Ok, Err, List, ◌∷◌}
use Rattle.hosts.specs.Event.{Event, TimeOf, failed_call, time_call}
use Rattle.hosts.specs.declared.faults.HostFault.{HostFault}
use Rattle.os8_dates.specs.Days.{date_at, word_of_time}
use Rattle.os8_dates.specs.declared.dates.Date.{Date}
use Rattle.outcome.specs.declared.endings.Ending.{Ending}
use Rattle.image_files.specs.Reading.{ending_of_image}
use Rattle.image_files.specs.Reasons.{TellsFault}
use Rattle.image_files.specs.declared.dates.FileDay.{FileDay}

abbrev pub with_year : ℕ → Option Date → Option FileDay
with_year word None = None
with_year word (Some date) = Some (record { word = word; year = date.year })

abbrev pub with_date : Option ℕ → Option Date → Option FileDay
with_date None date = None
with_date (Some word) date = with_year word date

-- the word of the day of a time, and the year of that day
abbrev pub day_of_time : ℕ → Option FileDay
day_of_time seconds = with_date (word_of_time seconds) (date_at seconds)

abbrev pub word_of_day : Option FileDay → Option ℕ
word_of_day None = None
word_of_day (Some day) = Some day.word

abbrev pub year_of_day : Option FileDay → Option ℕ
year_of_day None = None
year_of_day (Some day) = Some day.year

-- it is asked when a file was last changed, and the answer is that day; where no date is asked for, there is none
abbrev pub DatesFile : Bool → List ℕ → List Event → Result (Option FileDay) Ending → List Event → Type 0
DatesFile false name old result new = (result ≡ Ok None) × (new ≡ old)
DatesFile true name old (Ok day) new = (seconds : ℕ) × (day ≡ day_of_time seconds) × (new ≡ time_call name seconds ∷ old)
DatesFile true name old (Err ending) new = (fault : HostFault) × (ending ≡ ending_of_image fault) × TellsFault fault name (failed_call TimeOf name fault ∷ old) new
