use Rattle.os8_dates.proofs.DayLemmas.{number_back, times_come_back, times_keep_words}
use Rattle.os8_dates.proofs.laws.days_and_times.Goals as goal

pub returns-clause-numbers : goal.returns-clause-numbers
returns-clause-numbers c = number_back

pub returns-clause-times : goal.returns-clause-times
returns-clause-times c = times_come_back

pub returns-clause-words : goal.returns-clause-words
returns-clause-words c = times_keep_words
