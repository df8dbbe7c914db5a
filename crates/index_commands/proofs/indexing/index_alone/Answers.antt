use Rattle.std.proofs.Common.{inr, refl}
use Rattle.index_commands.proofs.indexing.index_alone.Goals as goal

pub returns : goal.returns
returns g c = inr (record { given = c.in_ok-after.after; between = g.H.Host.history c.index_one.new.host; done = c.in_ok-after.ensures; after = ((refl, refl), refl) })
