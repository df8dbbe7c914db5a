use Rattle.std.proofs.Common.{◌∙◌, refl}
use Rattle.pal8_source.specs.Steps.{asks_in, size_in}
use Rattle.pal8_source.proofs.PoolLemmas.{size_is}
use Rattle.pal8_source.proofs.pools.size_by.Goals as goal

pub returns : goal.returns
returns c =
    c.greatest_size.ensures ∙ size_is c.args.program.now (size_in c.args.sizes.now) c.args.page _ (asks_in c.in_ok-asks.asks) c.in_ok-asks.ensures refl
