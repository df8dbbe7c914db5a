use Rattle.pal8_values.proofs.GrowLemmas.{words_ask_more}
use Rattle.pal8_values.proofs.laws.words_ask_more.Goals as goal

pub returns : goal.returns
returns c = words_ask_more
