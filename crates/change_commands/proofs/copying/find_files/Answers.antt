use Rattle.std.proofs.Common.{rules, inr}
use Rattle.change_commands.proofs.copying.find_files.Goals as goal

pub returns : goal.returns
returns g c = inr (record { given = c.in_ok-volume.volume; between = g.H.Host.history c.open_from.new.host; done = search rules; after = search rules })
