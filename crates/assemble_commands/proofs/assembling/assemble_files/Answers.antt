use Rattle.std.proofs.Common.{inr, rules}
use Rattle.assemble_commands.proofs.assembling.assemble_files.Goals as goal

pub returns-in-None : goal.returns-in-None
returns-in-None g c = inr (record { given = tt; between = g.H.Host.history c.refuse_clash.new.host; done = c.in_ok-refuse_clash.ensures; after = search rules })

pub returns-in-Some : goal.returns-in-Some
returns-in-Some g c = inr (record { given = tt; between = g.H.Host.history c.refuse_clash.new.host; done = c.in_ok-refuse_clash.ensures; after = search rules })
