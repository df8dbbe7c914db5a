use Rattle.script8.proofs.ItemLemmas.{is_out}
use Rattle.script8.proofs.items.next_item.Goals as goal

pub returns-in-Err : goal.returns-in-Err
returns-in-Err c = is_out c.args.text.now c.args.is_end c.in-Err.missing c.in-Err.ensures
