use Rattle.std.proofs.Common.{inr}
use Rattle.change_commands.proofs.copying.copy_files.Goals as goal

pub returns : goal.returns
returns g c = inr (record { given = c.in_ok-image.image; between = g.H.Host.history c.open.new.host; done = c.in_ok-image.ensures.opens; after = c.copy_to.ensures })
