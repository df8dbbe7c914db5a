use Rattle.std.proofs.Common.{inr}
use Rattle.index_commands.proofs.indexing.index_in_columns.Goals as goal

pub returns : goal.returns
returns g c = inr (record { given = c.in_ok-columns.columns; between = g.H.Host.history c.choose.new.host; done = c.in_ok-columns.ensures; after = c.index_with.ensures })
