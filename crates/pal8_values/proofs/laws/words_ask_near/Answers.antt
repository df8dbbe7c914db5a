use Rattle.pal8_values.proofs.NearLemmas.{words_ask_near}
use Rattle.pal8_values.proofs.laws.words_ask_near.Goals as goal

pub returns : goal.returns
returns c = words_ask_near
