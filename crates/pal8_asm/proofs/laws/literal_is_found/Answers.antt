use Rattle.pal8_asm.proofs.LawLemmas.{value_is_found}
use Rattle.pal8_asm.proofs.ReachLemmas.{literal_is_found}
use Rattle.pal8_asm.proofs.laws.literal_is_found.Goals as goal

pub returns : goal.returns
returns c = literal_is_found c.words_ask_more.ensures c.cells_stay.ensures value_is_found c.literals_are_reached.ensures
