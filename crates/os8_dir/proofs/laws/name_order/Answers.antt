use Rattle.os8_dir.proofs.OrderLemmas.{name_of-order}
use Rattle.os8_dir.proofs.laws.name_order.Goals as goal

pub returns : goal.returns
returns c = name_of-order
