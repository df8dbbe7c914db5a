use Rattle.std.proofs.Common.{inr}
use Rattle.salvage_commands.proofs.rescues.rescue_image.Goals as goal

pub returns : goal.returns
returns g c = inr (record { given = c.in_ok-file.file; between = g.H.Host.history c.look_file.new.host; done = rw c.as_str.ensures.value at c.in_ok-file.ensures; after = c.rescue_file.ensures })
