use Rattle.std.proofs.Common.{inr}
use Rattle.index_commands.proofs.indexing.index_images.Goals as goal

pub returns : goal.returns
returns g c = inr (record { given = tt; between = g.H.Host.history c.check_word.new.host; done = rw c.as_bytes.ensures.value at c.in_ok-check_word.ensures; after = c.index_among.ensures })
