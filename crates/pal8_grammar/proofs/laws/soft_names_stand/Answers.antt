use Rattle.pal8_grammar.proofs.NameLemmas.{soft_names_stand}
use Rattle.pal8_grammar.proofs.laws.soft_names_stand.Goals as goal

pub returns : goal.returns
returns c = soft_names_stand
