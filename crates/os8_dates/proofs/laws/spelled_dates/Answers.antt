use Rattle.os8_dates.proofs.DateLemmas.{spelled_is_parsed}
use Rattle.os8_dates.proofs.laws.spelled_dates.Goals as goal

pub returns : goal.returns
returns c = spelled_is_parsed
