use Rattle.std.proofs.Common.{inr}
use Rattle.index_commands.proofs.indexing.index_with.Goals as goal

pub returns : goal.returns
returns g c = inr (record { given = c.in_ok-found.found; between = g.H.Host.history c.index_all.new.host; done = c.in_ok-found.ensures; after = c.end_index.ensures })
