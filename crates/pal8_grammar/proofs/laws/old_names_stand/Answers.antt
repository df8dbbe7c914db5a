use Rattle.pal8_grammar.proofs.NameLemmas.{old_names_stand}
use Rattle.pal8_grammar.proofs.laws.old_names_stand.Goals as goal

pub returns : goal.returns
returns c = old_names_stand
