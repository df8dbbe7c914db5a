use Rattle.script8.proofs.ItemLemmas.{one_wanted}
use Rattle.script8.proofs.items.one_line_wanted.Goals as goal

pub returns : goal.returns
returns c = one_wanted
