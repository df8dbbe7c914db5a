use Rattle.pal8_pools.proofs.ClashLemmas.{no_clash_is_apart}
use Rattle.pal8_pools.proofs.clash_laws.no_clash_is_apart.Goals as goal

pub returns : goal.returns
returns c = no_clash_is_apart
