use Rattle.os8_dates.proofs.DateLemmas.{dates_come_back, words_come_back}
use Rattle.os8_dates.proofs.laws.words_and_dates.Goals as goal

pub returns-clause-words : goal.returns-clause-words
returns-clause-words c = words_come_back

pub returns-clause-dates : goal.returns-clause-dates
returns-clause-dates c = dates_come_back
