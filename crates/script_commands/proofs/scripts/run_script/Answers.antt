use Rattle.std.proofs.Common.{inr}
use Rattle.script_commands.proofs.scripts.run_script.Goals as goal

pub returns : goal.returns
returns g c = inr (record { given = c.in_ok-image.image; between = g.H.Host.history c.open_image.new.host; done = c.in_ok-image.ensures; after = c.run_over.ensures })
