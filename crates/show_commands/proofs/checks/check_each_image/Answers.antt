use Rattle.std.proofs.Common.{inr}
use Rattle.show_commands.proofs.checks.check_each_image.Goals as goal

pub returns : goal.returns
returns g c = inr (record { given = tt; between = g.H.Host.history c.drop_each.new.host; done = c.in_ok-drop_each.ensures; after = c.check_files.ensures })
