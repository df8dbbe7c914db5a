use Rattle.std.proofs.Common.{inr, refl}
use Rattle.index_commands.proofs.indexing.index_among.Goals as goal

pub returns : goal.returns
returns g c = inr (record { given = c.in_ok-images.images; between = g.H.Host.history c.args.host.now; done = (c.in_ok-images.ensures, refl); after = rw c.deref.ensures.value at c.index_in_columns.ensures })
