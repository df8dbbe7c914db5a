use Rattle.std.proofs.Common.{rules, inr}
use Rattle.get_commands.proofs.giving.give_noted.Goals as goal

pub returns : goal.returns
returns g c = inr (record { given = tt; between = g.H.Host.history c.note_got.new.host; done = search rules; after = c.give_file.ensures })
