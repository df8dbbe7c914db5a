use Rattle.pal8_pools.proofs.ClashLemmas.{clash_is_lowest}
use Rattle.pal8_pools.proofs.clash_laws.clash_is_lowest.Goals as goal

pub returns : goal.returns
returns c = clash_is_lowest
